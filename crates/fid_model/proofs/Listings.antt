-- The entries of a page: how long they are, and that each has a spelling.
use Rattle.std.proofs.Common.{◌≡◌, ℕ, ◌^◌, ◌<◌, ◌≤◌, List, [], ◌∷◌, length, refl, sym, ap, ◌∙◌}
use Rattle.std.proofs.Common.{subst, arith, length-append}
use Rattle.std.specs.Prelude.{sum_by, map}
use Rattle.std.specs.List.{AllByRecursion}
use Rattle.std.proofs.lemmas.List.Sums.{sum_by-cons}
use Rattle.std.proofs.lemmas.List.Concat.{flat_map-cons}
use Rattle.p9_rmsg.specs.Dirents.{DirentSpells, dirent_spelling}
use Rattle.tree_model.specs.declared.attributes.Kind.{Kind}
use Rattle.tree_model.specs.declared.attributes.Kind.TheVariants as kind
use Rattle.tree_model.specs.Attributes.{entry_type, qid_type}
use Rattle.tree_model.specs.Tree.{Tree}
use Rattle.tree_model.specs.Good.{IsGoodTree}
use Rattle.tree_model.specs.Reading.{Entry}
use Rattle.tree_model.specs.Pages.{IsGoodEntry, entries_past_of, front_within, page_of}
use Rattle.tree_model.proofs.Pages.{page_good, splits_within}
use Rattle.fid_model.specs.Listings.{entry_told, entry_size, entries_spelling, listed_page}
use Rattle.fid_model.proofs.Names.{name_is_text}

pub length-entry : (e : Entry) → length (dirent_spelling (entry_told e)) ≡ entry_size e
length-entry e = omega arith

pub length-entries : (es : List Entry) → length (entries_spelling es) ≡ sum_by entry_size es
length-entries [] = refl
length-entries (e ∷ es) =
    let rest = length-entries es in
    let one = length-entry e in
    let sum = sum_by-cons entry_size e es in
    let both = length-append (dirent_spelling (entry_told e)) (entries_spelling es) in
    ap length (flat_map-cons (λ e. dirent_spelling (entry_told e)) e es) ∙ omega arith

-- a page has at most the bytes that there is room for
pub length-page : (t : Tree) (dir offset room : ℕ) → length (listed_page t dir offset room) ≤ room
length-page t dir offset room =
    let es = entries_past_of t dir offset in
    let fits = (splits_within entry_size room es).fits in
    subst (λ n. n ≤ room) (sym (length-entries (front_within entry_size room es))) fits

-- ---- spellings

qid_type_fits : (k : Kind) → qid_type k < 2 ^ 8
qid_type_fits kind.File = omega arith
qid_type_fits kind.Directory = omega arith
qid_type_fits kind.Link = omega arith

entry_type_fits : (k : Kind) → entry_type k < 2 ^ 8
entry_type_fits kind.File = omega arith
entry_type_fits kind.Directory = omega arith
entry_type_fits kind.Link = omega arith

-- a good entry has a spelling
entry_spells : (e : Entry) → IsGoodEntry e → DirentSpells (entry_told e)
entry_spells e good =
    let text = name_is_text e.name good.named in (
      (qid_type_fits e.attr.kind, (omega arith, good.ino)),
      (good.cookie, (entry_type_fits e.attr.kind, (omega (arith, text.0), text.1))),
    )

entries_spell : (es : List Entry) → AllByRecursion IsGoodEntry es
    → AllByRecursion DirentSpells (map entry_told es)
entries_spell [] good = tt
entries_spell (e ∷ es) good = (entry_spells e good.0, entries_spell es good.1)

-- so has each entry of a page of a good tree
pub page_spells : (t : Tree) → IsGoodTree t → (dir offset room : ℕ)
    → AllByRecursion DirentSpells (map entry_told (page_of entry_size room t dir offset))
page_spells t g dir offset room = entries_spell (page_of entry_size room t dir offset)
    (page_good entry_size t g dir room offset)
