-- A path from the top meets linked records alone, so what it leads to is the same in the linked
-- tree.
use Rattle.std.proofs.Common.{◌≡◌, ℕ, true, false, cond, List, [], ◌∷◌, refl, ap, ◌∙◌, None, Result}
use Rattle.std.proofs.Common.{Ok, Err}
use Rattle.std.specs.Prelude.{option_map, option_and_then}
use Rattle.std.specs.FinMap.{get}
use Rattle.tree_model.specs.Tree.{Tree, Record, body_at, is_linked, linked}
use Rattle.tree_model.specs.declared.attributes.TheConstants.{TOP}
use Rattle.tree_model.specs.Finding.{find, entries_of, ino_among, walk_step, walk_end, walk_on}
use Rattle.tree_model.specs.Finding.{directory_or_not, root_of}
use Rattle.tree_model.proofs.Maps.{retained}
use Rattle.tree_model.proofs.Naming.{found_is_named}
use Rattle.tree_model.proofs.Keeping.{named_is_linked}

module _ (t : Tree) where
  body_same : (i : ℕ) → is_linked t.records i ≡ true
      → body_at (linked t).records i ≡ body_at t.records i
  body_same i live = ap (option_map (λ (r : Record). r.body))
      (retained t.records (is_linked t.records) i ∙ ap (λ b. cond b (get t.records i) None) live)

  abbrev AtLinked : Result ℕ ℕ → Type 0
  AtLinked (Ok i) = is_linked t.records i ≡ true
  AtLinked (Err e) = Unit {0}

  end_same : (at : Result ℕ ℕ) → AtLinked at → walk_end (linked t) at ≡ walk_end t at
  end_same (Ok i) live = ap (λ b. directory_or_not b i) (body_same i live)
  end_same (Err e) live = refl

  step_same : (name : List ℕ) (at : Result ℕ ℕ) → AtLinked at
      → walk_step (linked t) name at ≡ walk_step t name at
  step_same name (Ok i) live = ap (λ b. ino_among false name (option_and_then entries_of b))
      (body_same i live)
  step_same name (Err e) live = refl

  found_linked : (i : ℕ) (name : List ℕ) (r : Result ℕ ℕ) → find false t i name ≡ r → AtLinked r
  found_linked i name (Ok j) is = named_is_linked t.records j (found_is_named false t i name j is)
  found_linked i name (Err e) is = tt

  step_linked : (name : List ℕ) (at : Result ℕ ℕ) → AtLinked (walk_step t name at)
  step_linked name (Ok i) = found_linked i name (find false t i name) refl
  step_linked name (Err e) = tt

  walk_same : (names : List (List ℕ)) (at : Result ℕ ℕ) → AtLinked at
      → walk_on (linked t) at names ≡ walk_on t at names
  walk_same [] at live = end_same at live
  walk_same (name ∷ names) at live = ap (λ r. walk_on (linked t) r names) (step_same name at live)
      ∙ walk_same names (walk_step t name at) (step_linked name at)

  pub root_of-linked : (names : List (List ℕ)) → root_of (linked t) names ≡ root_of t names
  root_of-linked names = walk_same names (Ok TOP) refl
