-- An owner that comes once more, and one that comes for the first time.
use Rattle.std.proofs.Common.{◌≡◌, ℕ, Bool, true, false, List, Some, None, sym, ap, ◌∙◌, cond, is_some}
use Rattle.std.specs.declared.option.Option.{Option}
use Rattle.std.specs.Ordering.{nat_cmp}
use Rattle.std.specs.BTreeMap.{is_at}
use Rattle.std.specs.FinMap.{from_entries, insert}
use Rattle.port_base.proofs.TableViews.{at, get_view, insert_view}
use Rattle.mount9_run.specs.Command.{with_owner}

abbrev Entries : Type 0
Entries = List (ℕ × ℕ)

module _ (es : Entries) (id shown : ℕ) (o : Option (ℕ × ℕ)) (read : Some (id, shown) ≡ o) where
  tested : (there : Bool) → is_some (at es id) ≡ there → with_owner (from_entries es) o
      ≡ cond there None (Some (insert (from_entries es) id shown))
  tested there is = ap (with_owner (from_entries es)) (sym read)
      ∙ ap (λ b. cond b None (Some (insert (from_entries es) id shown)))
      (ap is_some (get_view es id) ∙ is)

  pub owner_twice : is_some (at es id) ≡ true → with_owner (from_entries es) o ≡ None
  owner_twice = tested true

  pub owner_once : (fs : Entries) → is_some (at es id) ≡ false
      → ((q : ℕ) → at fs q ≡ cond (is_at (nat_cmp id) q) (Some shown) (at es q))
      → with_owner (from_entries es) o ≡ Some (from_entries fs)
  owner_once fs is new = tested false is ∙ sym (ap Some (insert_view es fs id shown new))
