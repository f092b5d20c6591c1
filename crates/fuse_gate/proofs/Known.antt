-- The node of an inode.
use Rattle.std.proofs.Common.{◌≡◌, ℕ, Bool, refl, sym, ap, ◌∙◌, Option, Some, None, eq-eqb}
use Rattle.std.specs.Prelude.{◌==◌, find}
use Rattle.std.proofs.lemmas.Bool.{false≢true}
use borrow.Author.Tests.{eqb-true}
use Rattle.std.specs.FinMap.{get, entries}
use Rattle.tree_machine.specs.State.{Node as MachineNode}
use Rattle.tree_machine.specs.Core.{node_of as node_found}
use Rattle.tree_machine.proofs.First.{first_entry, none_passes}
use Rattle.fid_model.specs.Fids.{ServerState}
use Rattle.fuse_gate.specs.Mapped.{mapped}
use Rattle.fuse_gate.specs.Standing.{node_of, machine_of, IsInStep}
use Rattle.fuse_gate.specs.declared.gate.Node.{Node}
use Rattle.fuse_gate.specs.declared.gate.Gate.{Gate}
use Rattle.fuse_gate.proofs.MappedLemmas.{mapped_from, mapped_at}

module _ {g : Gate} {s : ServerState} (st : IsInStep g s) (ino : ℕ) where
  abbrev names_it : ℕ × MachineNode → Bool
  names_it e = e.1.ino == ino

  -- an entry that is found is the node that the index tells
  indexed_by : (e : ℕ × MachineNode) → find names_it (entries (mapped node_of g.nodes)) ≡ Some e
      → (n : Node) × (get g.nodes e.0 ≡ Some n) × (node_of n ≡ e.1) × (n.ino ≡ ino)
      × (get g.ids ino ≡ Some e.0)
  indexed_by e found =
      let there = first_entry names_it (mapped node_of g.nodes) e found in
      let m = mapped_from node_of g.nodes e.0 e.1 there.0 in
      let same : m.0.ino ≡ ino = ap (λ (v : MachineNode). v.ino) m.2
      ∙ eqb-true e.1.ino ino there.1 in
      (m.0, m.1, m.2, same, ap (get g.ids) (sym same) ∙ st.paired.known e.0 m.0 m.1)

  pub known_found : (id : ℕ) (n : Node) → get g.ids ino ≡ Some id → get g.nodes id ≡ Some n
      → n.ino ≡ ino → node_found (machine_of g s) ino ≡ Some (id, node_of n)
  known_found id n indexed at is = by_found (find names_it (entries (mapped node_of g.nodes)))
      refl where
        by_found : (o : Option (ℕ × MachineNode))
            → find names_it (entries (mapped node_of g.nodes)) ≡ o
            → o ≡ Some (id, node_of n)
        by_found None none =
            let misses = none_passes names_it (mapped node_of g.nodes) id (node_of n) none
            (mapped_at node_of g.nodes id n at) in
            absurd (false≢true (sym misses ∙ eq-eqb n.ino ino is))
        by_found (Some e) found =
            let m = indexed_by e found in
            let ids : Some e.0 ≡ Some id = sym m.4 ∙ indexed in
            let same : e.0 ≡ id = cc in
            let nodes : Some m.0 ≡ Some n = sym m.1 ∙ ap (get g.nodes) same ∙ at in
            let node : m.0 ≡ n = cc in
            let value : e.1 ≡ node_of n = sym m.2 ∙ ap node_of node in
            λ i. Some (same i, value i)

  -- none is found where the index tells none
  pub unknown_found : get g.ids ino ≡ None → node_found (machine_of g s) ino ≡ None
  unknown_found indexed = by_found (find names_it (entries (mapped node_of g.nodes))) refl where
    by_found : (o : Option (ℕ × MachineNode)) → find names_it (entries (mapped node_of g.nodes)) ≡ o
        → o ≡ None
    by_found None none = refl
    by_found (Some e) found = absurd (let m = indexed_by e found in let clash : Some e.0 ≡ None =
        sym m.4 ∙ indexed in cc)
