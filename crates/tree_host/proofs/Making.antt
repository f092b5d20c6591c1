-- A change of a record in a table is one of its tree.
use Rattle.std.proofs.Common.{◌≡◌, ℕ, ◌%◌, unwrap_or, sym, ap, ◌∙◌, subst, Option, Some, None}
use Rattle.std.proofs.Common.{Result, Ok, Err}
use Rattle.std.specs.Prelude.{option_map}
use Rattle.std.specs.FinMap.{get, insert}
use Rattle.tree_model.specs.declared.attributes.HostError.{HostError}
use Rattle.tree_model.specs.declared.attributes.HostError.TheVariants.{Errno, Fault, NoMemory}
use Rattle.tree_model.specs.Tree.{Tree, Record, Records, Body, body_at}
use Rattle.tree_model.specs.Good.{IsGoodTree}
use Rattle.tree_model.specs.Sound.{IsKept, AreStored}
use Rattle.tree_model.specs.Making.{change, changed}
use Rattle.tree_model.specs.Attributing.{refused_at}
use Rattle.tree_model.proofs.Maps.{rewritten}
use Rattle.tree_model.proofs.Attributing.{Amends, amended_good, amended_kept, amended_stored}
use Rattle.tree_model.proofs.Attributing.{restamped_good, mode_good, low_mode, owned_good}
use Rattle.tree_model.proofs.Attributing.{retimed_good}
use Rattle.tree_model.proofs.Rewriting.{resized_good}
use Rattle.tree_host.specs.Holds.{Holds, is_held}
use Rattle.tree_host.specs.Host.{IsHeldIn}
use Rattle.tree_host.specs.Kept.{tree_from}
use Rattle.tree_host.specs.declared.change.Change.{Change}
use Rattle.tree_host.specs.declared.change.Change.TheVariants.{Ctime, Mode, Owner, Times, Len}
use Rattle.tree_host.specs.Changing.{Makes, change_refused, changed_by}

-- what a change makes leaves a good tree
pub change_amends : (t : Tree) → IsGoodTree t → (ino : ℕ) (wanted : Change)
    → Amends t ino (change_refused wanted t.limits.file) (changed_by wanted t.moment)
change_amends t g ino Ctime = λ r at free. restamped_good t g ino r at
change_amends t g ino (Mode mode) = λ r at free. mode_good t g ino (mode % 4096) (low_mode mode) r
    at
change_amends t g ino (Owner uid gid) = λ r at free. owned_good t g ino (unwrap_or uid r.uid)
    (unwrap_or gid r.gid) r at
change_amends t g ino (Times atime mtime) = retimed_good t g ino atime mtime
change_amends t g ino (Len len) = resized_good t g ino len

-- the record that is changed is written back
pub made_at : (refused : Body → Option ℕ) (f : Record → Record) (rs now : Records) (i : ℕ)
    (r w : Record) (result : Result (Unit {0}) HostError)
    → Some r ≡ get rs i → now ≡ insert rs i w → Makes (refused r.body) (f r) r w result
    → Makes (refused_at refused (body_at rs i)) (change f rs i) rs now result
made_at refused f rs now i r w (Ok u) at back m = record {
  exactly = (
    ap (λ o. refused_at refused (option_map (λ (r : Record). r.body) o)) (sym at) ∙ m.exactly.0,
    back ∙ ap (insert rs i) m.exactly.1 ∙ ap (λ o. changed f o rs i) at,
  );
}
made_at refused f rs now i r w (Err (Errno e)) at back m = record {
  exactly = (
    ap (λ o. refused_at refused (option_map (λ (r : Record). r.body) o)) (sym at) ∙ m.exactly.0,
    back ∙ ap (insert rs i) m.exactly.1 ∙ rewritten rs i r at,
  );
}
made_at refused f rs now i r w (Err Fault) at back m = absurd m.exactly
made_at refused f rs now i r w (Err NoMemory) at back m =
    record { exactly = back ∙ ap (insert rs i) m.exactly ∙ rewritten rs i r at }

module _ (t : Tree) (h : Holds) (g : IsGoodTree t) (s : IsHeldIn t h) (ino : ℕ)
    (refused : Body → Option ℕ) (f : Record → Record) (amends : Amends t ino refused f)
    (rs : Records) where
  pub made_good : (result : Result (Unit {0}) HostError)
      → Makes (refused_at refused (body_at t.records ino)) (change f t.records ino) t.records rs
      result → IsGoodTree (tree_from rs t.next t.limits t.moment)
  made_good (Ok u) m = subst (λ (rs : Records). IsGoodTree (tree_from rs t.next t.limits t.moment))
      (sym m.exactly.1) (amended_good t g ino refused f amends m.exactly.0)
  made_good (Err (Errno e)) m = subst (λ (rs : Records). IsGoodTree
      (tree_from rs t.next t.limits t.moment)) (sym m.exactly.1) g
  made_good (Err Fault) m = absurd m.exactly
  made_good (Err NoMemory) m = subst (λ (rs : Records). IsGoodTree
      (tree_from rs t.next t.limits t.moment)) (sym m.exactly) g

  made_held_by : rs ≡ change f t.records ino → refused_at refused (body_at t.records ino) ≡ None
      → IsHeldIn (tree_from rs t.next t.limits t.moment) h
  made_held_by is free = record {
    kept = subst (λ (rs : Records). IsKept rs (is_held h)) (sym is)
        (amended_kept t g ino refused f amends free (is_held h) s.kept);
    stored = subst (λ (rs : Records). AreStored rs (is_held h)) (sym is)
        (amended_stored t g ino refused f amends free (is_held h) s.stored);
    positive = s.positive;
  }

  pub made_held : (result : Result (Unit {0}) HostError)
      → Makes (refused_at refused (body_at t.records ino)) (change f t.records ino) t.records rs
      result → IsHeldIn (tree_from rs t.next t.limits t.moment) h
  made_held (Ok u) m = made_held_by m.exactly.1 m.exactly.0
  made_held (Err (Errno e)) m = subst (λ (rs : Records). IsHeldIn
      (tree_from rs t.next t.limits t.moment) h) (sym m.exactly.1) s
  made_held (Err Fault) m = absurd m.exactly
  made_held (Err NoMemory) m = subst (λ (rs : Records). IsHeldIn
      (tree_from rs t.next t.limits t.moment) h) (sym m.exactly) s
