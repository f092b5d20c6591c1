-- A record is stored exactly where it is linked, or a node or a handle names it.
use Rattle.std.proofs.Common.{◌≡◌, ℕ, ◌<◌, Bool, true, false, ◌||◌, refl, sym, ap, ◌∙◌, subst}
use Rattle.std.proofs.Common.{arith, IsSome, is_some, nat_lt, ⊎_elim}
use Rattle.std.specs.Prelude.{◌==◌}
use Rattle.std.proofs.lemmas.Bool.{cases_eq}
use Rattle.std.proofs.lemmas.Bool.Decides.{nat_tests}
use Rattle.std.specs.FinMap.{get}
use Rattle.tree_model.specs.declared.attributes.TheConstants.{TOP}
use Rattle.tree_model.specs.Tree.{Tree, name_count, is_linked}
use Rattle.tree_model.specs.Good.{IsGoodTree}
use Rattle.tree_model.proofs.Naming.{named_is_stored}
use Rattle.tree_machine.specs.State.{is_named}
use Rattle.tree_machine.proofs.Begun.{stored_by}
use Rattle.fid_model.specs.Fids.{ServerState, IsGoodServer}
use Rattle.fuse_gate.specs.Standing.{IsInStep, machine_of}
use Rattle.fuse_gate.specs.declared.gate.Gate.{Gate}
use Rattle.fuse_gate.proofs.Held.{same_bool}
use Rattle.fuse_gate.proofs.Standings.{named_held}

module _ (t : Tree) (good : IsGoodTree t) (i : ℕ) where
  by_test : (b : Bool) (n : ℕ) → b ≡ false → (b || nat_lt 0 n) ≡ true → 0 < n
  by_test b n out h = grind (arith, nat_tests)

  linked_is_stored : is_linked t.records i ≡ true → IsSome (get t.records i)
  linked_is_stored h = ⊎_elim
      (λ same. subst (λ k. IsSome (get t.records k)) (sym same)
      (stored_by (get t.records TOP) good.top_is_directory))
      (λ ne. named_is_stored t good i (by_test (i == TOP) (name_count t.records i)
      (grind (arith, nat_tests)) h))
      (cases_eq i TOP)

either : (a b : Bool) {X : Type 0} → (a ≡ true → X) → (b ≡ true → X) → (a || b) ≡ true → X
either true b f g h = f refl
either false b f g h = g h

pub stored_exactly : (g : Gate) (s : ServerState) → IsInStep g s → IsGoodServer s → (i : ℕ)
    → is_some (get s.tree.records i) ≡ (is_linked s.tree.records i || is_named
    (machine_of g s).nodes (machine_of g s).handles i)
stored_exactly g s st good i = same_bool _ _
    (λ had. ap (λ b. is_linked s.tree.records i || b) (named_held g s st.paired st.good.apart i)
    ∙ good.kept i had)
    (λ h. either (is_linked s.tree.records i)
    (is_named (machine_of g s).nodes (machine_of g s).handles i)
    (λ live. linked_is_stored s.tree good.tree i live)
    (λ named. good.stored i (sym (named_held g s st.paired st.good.apart i) ∙ named)) h)
