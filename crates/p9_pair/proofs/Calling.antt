-- Which fids there are after a call that was answered.
use Rattle.std.proofs.Common.{◌≡◌, ⊎_elim, ℕ, ◌+◌, ◌≤◌, Bool, true, false, cond, List, Option, Some}
use Rattle.std.proofs.Common.{None, Result, Ok, Err, refl, sym, ap, ◌∙◌, subst, arith, IsSome}
use Rattle.std.proofs.lemmas.Bool.{cases_eq, false≢true}
use Rattle.std.specs.Prelude.{is_some}
use Rattle.std.specs.Cmp.{nat_cmp_total}
use Rattle.std.specs.FinMap as map
use Rattle.port_base.specs.declared.errno.TheConstants.{ENFILE}
use Rattle.tree_model.specs.Attributes.{Qid}
use Rattle.tree_model.specs.Finding.{find, root_of}
use Rattle.tree_model.specs.Opening.{open_check_of}
use Rattle.tree_model.proofs.Maps.{inserted, insert_keeps}
use Rattle.fid_model.specs.Fids.{ServerState, Fids, Fid, closed}
use Rattle.fid_model.specs.Answers.{opened}
use Rattle.fid_model.specs.Calls.{named, attach_told, walk_one_told}
use Rattle.tree_model.specs.Tree.{Tree}
use Rattle.fid_model.specs.Moments.{Asks, Moment, Untouched}
use Rattle.p9_wire.specs.declared.qid.Qid.{Qid as QidStruct}
use Rattle.p9_wire.specs.Qids.{qid_of}
use Rattle.p9_client.specs.Changing.{Gives}
use Rattle.p9_client.specs.Views.{IsRoomy, qid_answer}
use Rattle.p9_client.specs.Opening.{copied_told, opened_by, opened_told, is_readable_at}
use Rattle.p9_pair.specs.Named.{HasFids}

abbrev after : ServerState → ℕ → ServerState → Type 0
after s newfid s1 = (f : Fid) × (s1.fids ≡ map.insert s.fids newfid f)

one_more : (n : ℕ) (fids : Fids) (f : Fid) → HasFids n fids
    → HasFids (n + 1) (map.insert fids (n + 1) f)
one_more n fids f h = record {
  known = λ i low high. ⊎_elim
      (λ e. subst IsSome (sym (ap (map.get (map.insert fids (n + 1) f)) e
      ∙ inserted fids (n + 1) f)) refl)
      (λ ne. subst IsSome (sym (insert_keeps fids (n + 1) f i ne)) (h.known i low (omega arith)))
      (cases_eq i (n + 1));
  fresh = λ i above. insert_keeps fids (n + 1) f i (λ e. omega arith) ∙ h.fresh i (omega arith);
  count = map.len-insert nat_cmp_total fids (n + 1) f
      ∙ ap (λ (o : Option Fid). cond (is_some o) (map.len fids) (map.len fids + 1))
      (h.fresh (n + 1) (omega arith))
      ∙ ap (λ k. k + 1) h.count;
}

made : (n : ℕ) (s s1 : ServerState) → HasFids n s.fids → after s (n + 1) s1
    → HasFids (n + 1) s1.fids
made n s s1 h a = subst (HasFids (n + 1)) (sym a.1) (one_more n s.fids a.0 h)

none_yet : (fids : Fids) → fids ≡ map.empty → HasFids 0 fids
none_yet fids none = subst (HasFids 0) (sym none) (record {
  known = λ i low high. let none : ⊥ = omega (arith, low, high) in absurd none;
  fresh = λ i above. map.get-empty {X = Fid} _ i;
  count = map.len-empty _ Fid;
})

-- an answer that isn't a refusal is told
told_by : (s s1 : ServerState) (f0 f1 : ℕ) → {A : Type 0} (told : Result A ℕ × ServerState) (a : A)
    → Asks told Untouched (Ok a) s s1 f0 f1 → (Ok a, s1) ≡ told
told_by s s1 f0 f1 told a h = ⊎_elim (λ e. e) (λ hurt. let bad = hurt.1 in absurd (cc)) h

module _ (s s1 : ServerState) (f0 f1 : ℕ) where
  module _ (q : Qid) where
    named_fids : (newfid : ℕ) (r : Result ℕ ℕ) → Asks (named s newfid r) Untouched (Ok q) s s1 f0 f1
        → after s newfid s1
    named_fids newfid (Ok i) h = (
      closed i,
      ap (λ (x : Result Qid ℕ × ServerState). x.1.fids)
          (told_by s s1 f0 f1 (named s newfid (Ok i)) q h),
    )
    named_fids newfid (Err e) h = let bad = ap (λ (x : Result Qid ℕ × ServerState). x.0)
        (told_by s s1 f0 f1 (named s newfid (Err e)) q h) in absurd (cc)

    limited_fids : (b : Bool) (newfid : ℕ) (r : Result ℕ ℕ)
        → Asks (cond {A = Result Qid ℕ × ServerState} b (Err ENFILE, s) (named s newfid r))
        Untouched (Ok q) s s1 f0 f1 → after s newfid s1
    limited_fids true newfid r h = let bad = ap (λ (x : Result Qid ℕ × ServerState). x.0)
        (told_by s s1 f0 f1 (Err ENFILE, s) q h) in absurd (cc)
    limited_fids false newfid r h = named_fids newfid r h

    opened_fids : (f : Fid) (r : Result (Unit {0}) ℕ)
        → Asks (opened_by s 3 f 0 r) Untouched (Ok q) s s1 f0 f1
        → s1.fids ≡ map.insert s.fids 3 (opened f 0)
    opened_fids f (Ok u) h = ap (λ (x : Result Qid ℕ × ServerState). x.1.fids)
        (told_by s s1 f0 f1 (opened_by s 3 f 0 (Ok u)) q h)
    opened_fids f (Err e) h = let bad = ap (λ (x : Result Qid ℕ × ServerState). x.0)
        (told_by s s1 f0 f1 (opened_by s 3 f 0 (Err e)) q h) in absurd (cc)

  module _ (r : Result QidStruct ℕ) (q : QidStruct) (is : r ≡ Ok q) where
    answered : (told : Result Qid ℕ × ServerState) → Asks told Untouched (qid_answer r) s s1 f0 f1
        → Asks told Untouched (Ok (qid_of q)) s s1 f0 f1
    answered told h = subst (λ (r : Result QidStruct ℕ). Asks told Untouched (qid_answer r) s s1 f0
        f1) is h

    pub attached_fids : s.fids ≡ map.empty → Asks (attach_told s 1) Untouched (qid_answer r) s s1 f0
        f1 → HasFids 1 s1.fids
    attached_fids none h = made 0 s s1 (none_yet s.fids none)
        (limited_fids (qid_of q) _ 1 (root_of s.tree s.settings.root)
        (answered (attach_told s 1) h))

    walked_by : (name : List ℕ) (o : Option Fid) → map.get s.fids 1 ≡ o → IsSome o
        → HasFids 1 s.fids → ((f : Fid) → map.get s.fids 1 ≡ Some f
        → Asks (walk_one_told s f.ino 2 name) Untouched (qid_answer r) s s1 f0 f1)
        → HasFids 2 s1.fids
    walked_by name None at some h a = absurd (false≢true some)
    walked_by name (Some f) at some h a = made 1 s s1 h
        (named_fids (qid_of q) 2 (find s.settings.casefold s.tree f.ino name)
        (answered (walk_one_told s f.ino 2 name) (a f at)))

    pub walked_fids : (name : List ℕ) → HasFids 1 s.fids
        → ((f : Fid) → map.get s.fids 1 ≡ Some f
        → Asks (walk_one_told s f.ino 2 name) Untouched (qid_answer r) s s1 f0 f1)
        → HasFids 2 s1.fids
    walked_fids name h a = walked_by name (map.get s.fids 1) refl
        (h.known 1 (omega arith) (omega arith)) h a

    opened_to_read : (o : Option Fid) → map.get s.fids 3 ≡ o → IsSome o
        → ((f : Fid) → map.get s.fids 3 ≡ Some f
        → Asks (opened_told s 3 f 0) Untouched (qid_answer r) s s1 f0 f1)
        → is_readable_at (map.get s1.fids 3) ≡ true
    opened_to_read None at some a = absurd (false≢true some)
    opened_to_read (Some f) at some a =
        ap (λ (fids : Fids). is_readable_at (map.get fids 3))
        (opened_fids (qid_of q) f (open_check_of s.tree f.ino 0)
        (answered (opened_told s 3 f 0) (a f at)))
        ∙ ap is_readable_at (inserted s.fids 3 (opened f 0))

    pub opened_readable : HasFids 3 s.fids → ((f : Fid) → map.get s.fids 3 ≡ Some f
        → Asks (opened_told s 3 f 0) Untouched (qid_answer r) s s1 f0 f1)
        → is_readable_at (map.get s1.fids 3) ≡ true
    opened_readable h a = opened_to_read (map.get s.fids 3) refl
        (h.known 3 (omega arith) (omega arith)) a

  copied_by : (r : Result (Unit {0}) ℕ) (u : Unit {0}) → r ≡ Ok u → (o : Option Fid)
      → map.get s.fids 2 ≡ o → IsSome o → HasFids 2 s.fids
      → ((f : Fid) → map.get s.fids 2 ≡ Some f
      → Asks (copied_told s f.ino 3) Untouched r s s1 f0 f1) → HasFids 3 s1.fids
  copied_by r u is None at some h a = absurd (false≢true some)
  copied_by r u is (Some f) at some h a =
      made 2 s s1 h (
        closed f.ino,
        ap (λ (x : Result (Unit {0}) ℕ × ServerState). x.1.fids)
            (told_by s s1 f0 f1 (copied_told s f.ino 3) u
            (subst (λ (r : Result (Unit {0}) ℕ). Asks (copied_told s f.ino 3) Untouched r s s1 f0
            f1)
            is (a f at))),
      )

  pub copied_fids : (r : Result (Unit {0}) ℕ) (u : Unit {0}) → r ≡ Ok u → HasFids 2 s.fids
      → ((f : Fid) → map.get s.fids 2 ≡ Some f
      → Asks (copied_told s f.ino 3) Untouched r s s1 f0 f1) → HasFids 3 s1.fids
  copied_fids r u is h a = copied_by r u is (map.get s.fids 2) refl
      (h.known 2 (omega arith) (omega arith)) h a

-- a call keeps the room for messages
pub roomy_after : {R A E : Type 0} {view : R → Result A ℕ} {told : Result A ℕ × ServerState}
    {part : Tree → Tree → Type 0} {result : Result R E} {old new : Moment}
    → Gives view told part result old new → IsRoomy old.state → IsRoomy new.state
roomy_after {old = old} h roomy =
    record { enough = subst (λ n. 4352 ≤ n) (sym h.kept.sized) roomy.enough }
