-- LOOKUP leaves a good state.
use Rattle.std.proofs.Common.{◌≡◌, ℕ, false, List, [], ◌∷◌, refl, Option, None, Result, Ok, Err}
use Rattle.tree_model.specs.Finding.{find}
use Rattle.tree_model.specs.Settings.{Settings}
use Rattle.tree_model.proofs.Naming.{found_is_named, named_is_stored}
use Rattle.port_base.specs.Names.{name_fault}
use Rattle.port_base.specs.declared.errno.TheConstants.{ENFILE, ESTALE}
use Rattle.tree_machine.specs.State.{MachineState, Node, is_at_limit}
use Rattle.tree_machine.specs.Refusals.{refused_if, refused_unknown}
use Rattle.tree_machine.specs.Core.{node_ino, node_for, node_of, looked_up, lookup_refusal}
use Rattle.tree_machine.specs.Good.{IsGoodMachine}
use Rattle.tree_machine.proofs.KeptStates.{kept_good, Gives}
use Rattle.tree_machine.proofs.Nodes.{given_good}
use Rattle.tree_machine.proofs.Refusals.{passes, fails}

module _ (s : Settings) (m : MachineState) (g : IsGoodMachine s m) where
  pub looked_up_good : (dir : ℕ) (name : List ℕ) (r : Result ℕ ℕ) → is_at_limit s m ≡ false
      → find s.casefold m.tree dir name ≡ r → Gives s (looked_up s m r)
  looked_up_good dir name (Err e) open_limit at = kept_good s m g
  looked_up_good dir name (Ok ino) open_limit at =
      kept_good s (node_for m ino (node_of m ino)).1
      (given_good s m g ino (named_is_stored m.tree g.tree ino
      (found_is_named s.casefold m.tree dir name ino at)) open_limit (node_of m ino) refl)

  pub lookup_good : (name : List ℕ) (o : Option Node) → lookup_refusal s m name o ≡ None
      → Gives s (looked_up s m (find s.casefold m.tree (node_ino o) name))
  lookup_good name o none =
      let known = passes (refused_unknown o ESTALE)
      (name_fault name ∷ refused_if (is_at_limit s m) ENFILE ∷ []) none in
      let faultless = passes (name_fault name) (refused_if (is_at_limit s m) ENFILE ∷ []) known.1 in
      let below = passes (refused_if (is_at_limit s m) ENFILE) [] faultless.1 in
      looked_up_good (node_ino o) name (find s.casefold m.tree (node_ino o) name)
      (fails (is_at_limit s m) ENFILE below.0) refl
