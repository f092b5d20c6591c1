-- LINK leaves a good state: what is named stays stored, and its node counts one more.
use Rattle.std.proofs.Common.{◌≡◌, ℕ, Bool, false, List, [], ◌∷◌, refl, sym, subst, Option}
use Rattle.std.proofs.Common.{Some, None, Result, Ok, Err, IsSome, inl}
use Rattle.std.specs.FinMap.{get}
use Rattle.port_base.specs.Names.{name_fault}
use Rattle.port_base.specs.declared.errno.TheConstants.{ENFILE, ESTALE}
use Rattle.tree_model.specs.Tree.{Tree}
use Rattle.tree_model.specs.Sound.{IsKept}
use Rattle.tree_model.specs.Good.{IsGoodTree}
use Rattle.tree_model.specs.Placing.{name_refused}
use Rattle.tree_model.specs.Creating.{with_name, link_of}
use Rattle.tree_model.specs.Settings.{Settings}
use Rattle.tree_model.proofs.Creating.{with_name_good, with_name_kept}
use Rattle.tree_machine.specs.State.{MachineState, Node, is_named, is_at_limit}
use Rattle.tree_machine.specs.Refusals.{refused_if, refused_unknown}
use Rattle.tree_machine.specs.Core.{node_ino, lookup_refusal}
use Rattle.tree_machine.specs.Naming.{link_refusal, link_told, linked}
use Rattle.tree_machine.specs.Good.{IsGoodMachine}
use Rattle.tree_machine.proofs.KeptStates.{kept_good, Gives}
use Rattle.tree_machine.proofs.KindsKept.{Leaves, name_kinds, is_there}
use Rattle.tree_machine.proofs.MadeNames.{lookup_fine, unless_made, entered_good}
use Rattle.tree_machine.proofs.Refusals.{passes}

known_node : (o : Option Node) → refused_unknown o ESTALE ≡ None → (k : Node) × (o ≡ Some k)
known_node None none = absurd cc
known_node (Some k) none = (k, refl)

module _ (t : Tree) (g : IsGoodTree t) (held : ℕ → Bool) (name : List ℕ)
    (fine : name_fault name ≡ None) (ino dir : ℕ) (u : Tree)
    (is : link_of t ino dir name ≡ Ok (tt, u)) where
  named : (name_refused t dir name ino ≡ None) × (with_name t dir name ino ≡ u)
  named = let made = unless_made {A = Unit {0}} (name_refused t dir name ino) tt tt
      (with_name t dir name ino) u is in (made.0, made.2)

  -- what was stored stays so
  pub link_leaves : IsSome (get t.records ino)
      → IsGoodTree u × Leaves held t u × IsSome (get u.records ino)
  link_leaves there = (
    subst IsGoodTree named.1 (with_name_good t g dir ino name named.0 fine),
    (with_name t dir name ino, name_kinds t dir name ino, inl (sym named.1)),
    subst (λ (v : Tree). IsSome (get v.records ino)) named.1
        (is_there (get (with_name t dir name ino).records ino) (get t.records ino)
        (name_kinds t dir name ino ino there) there),
  )

  -- and what was linked or held
  pub link_stays : IsKept t.records held → IsKept u.records held
  link_stays kept = subst (λ (v : Tree). IsKept v.records held) named.1
      (with_name_kept t g dir ino name named.0 fine held kept)

module _ (s : Settings) (m : MachineState) (g : IsGoodMachine s m) where
  linked_good : (ino dir : ℕ) (name : List ℕ) → name_fault name ≡ None → is_at_limit s m ≡ false
      → IsSome (get m.tree.records ino)
      → (r : Result (Unit {0} × Tree) ℕ) → link_told m ino dir name ≡ r
      → Gives s (linked s m ino r)
  linked_good ino dir name fine room there (Err e) is = kept_good s m g
  linked_good ino dir name fine room there (Ok (tt, u)) is =
      let all = link_leaves m.tree g.tree (is_named m.nodes m.handles) name fine ino dir u is there in
      entered_good s m g u ino all.0 all.1 all.2 room

  pub link_fine : (name : List ℕ) (o p : Option Node) → link_refusal s m name o p ≡ None
      → (refused_unknown o ESTALE ≡ None) × (lookup_refusal s m name p ≡ None)
  link_fine name o p none = passes (refused_unknown o ESTALE)
      (refused_unknown p ESTALE ∷ name_fault name ∷ refused_if (is_at_limit s m) ENFILE ∷ []) none

  pub link_good : (name : List ℕ) (id at : ℕ)
      → link_refusal s m name (get m.nodes id) (get m.nodes at) ≡ None
      → Gives s (linked s m (node_ino (get m.nodes id))
      (link_told m (node_ino (get m.nodes id)) (node_ino (get m.nodes at)) name))
  link_good name id at none =
      let both = link_fine name (get m.nodes id) (get m.nodes at) none in
      let old = known_node (get m.nodes id) both.0 in
      let fine = lookup_fine s m name (get m.nodes at) both.1 in
      let there : IsSome (get m.tree.records (node_ino (get m.nodes id))) =
      subst (λ (o : Option Node). IsSome (get m.tree.records (node_ino o))) (sym old.1)
      (g.nodes id old.0 old.1).stored in
      linked_good (node_ino (get m.nodes id)) (node_ino (get m.nodes at)) name fine.0 fine.1
      there (link_told m (node_ino (get m.nodes id)) (node_ino (get m.nodes at)) name) refl
