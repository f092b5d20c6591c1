-- Qids in a list: each fits, and how many bytes they have.
use Rattle.std.proofs.Common.{◌≡◌, ◌*◌, ◌≤◌, List, [], ◌∷◌, ◌++◌, length, map, refl, ap, ◌∙◌, arith}
use Rattle.std.specs.List.{AllByRecursion, flat_map}
use Rattle.std.proofs.lemmas.List.{length-append, length-map, map-append}
use Rattle.tree_model.specs.Attributes.{Qid}
use Rattle.p9_wire.specs.declared.qid.Qid.{Qid as QidStruct}
use Rattle.p9_wire.specs.Qids.{qid_of}
use Rattle.p9_wire.specs.Values.{QidSpells, qid_spelling}
use Rattle.p9_rmsg.specs.Replies.Reply.{walk}
use Rattle.p9_server.specs.Answering.{IsShort}

pub all_more : (qs : List Qid) (q : Qid) → AllByRecursion QidSpells qs → QidSpells q
    → AllByRecursion QidSpells (qs ++ (q ∷ []))
all_more [] q all one = (one, tt)
all_more (p ∷ qs) q all one = (all.0, all_more qs q all.1 one)

pub pushed : (new old : List QidStruct) (q : QidStruct) → new ≡ old ++ (q ∷ [])
    → map qid_of new ≡ map qid_of old ++ (qid_of q ∷ [])
pushed new old q is = ap (map qid_of) is ∙ map-append qid_of old (q ∷ [])

qids_length : (qs : List Qid) → length (flat_map qid_spelling qs) ≡ 13 * length qs
qids_length [] = refl
qids_length (q ∷ qs) =
    let rest = qids_length qs in
    let both = length-append (qid_spelling q) (flat_map qid_spelling qs) in
    omega arith

-- the reply to a walk of at most 16 names
pub walk_short : (items : List QidStruct) → length items ≤ 16
    → AllByRecursion QidSpells (map qid_of items) → IsShort (walk (map qid_of items))
walk_short items few all =
    let count = length-map items qid_of in
    let bytes = qids_length (map qid_of items) in
    record { spells = (omega arith, all); short = omega arith }
