-- The state in which a run begins is good.
use Rattle.std.proofs.Common.{◌≡◌, ℕ, ◌+◌, ◌<◌, ◌≤◌, Bool, true, false, cond, List, [], ◌∷◌, refl}
use Rattle.std.proofs.Common.{sym, ap, ◌∙◌, subst, Option, Some, None, Result, Ok, Err, arith}
use Rattle.std.proofs.Common.{IsSome, ⊎_elim, option_map, is_some}
use Rattle.std.proofs.lemmas.Bool.{cases_eq}
use Rattle.std.specs.Ordering.{nat_cmp}
use Rattle.std.specs.Cmp.{nat_cmp_total}
use Rattle.std.specs.FinMap.{get, empty, len, len-insert, len-empty, get-empty}
use Rattle.tree_model.specs.Tree.{Tree, Record, body_at, is_directory_at}
use Rattle.tree_model.specs.declared.attributes.TheConstants.{TOP}
use Rattle.tree_model.specs.Good.{IsGoodTree}
use Rattle.tree_model.specs.Finding.{root_of, walk_on, walk_step, walk_end}
use Rattle.tree_model.specs.Settings.{Settings}
use Rattle.tree_model.proofs.Maps.{inserted, insert_keeps}
use Rattle.fuse_wire.specs.declared.protocol.TheConstants.{FUSE_ROOT_ID}
use Rattle.tree_machine.specs.State.{Node, Handle, begun}
use Rattle.tree_machine.specs.Good.{IsGoodMachine}

ends_at_directory : (t : Tree) (at : Result ℕ ℕ) (root : ℕ) → walk_end t at ≡ Ok root
    → is_directory_at (body_at t.records root) ≡ true
ends_at_directory t (Err e) root h = absurd cc
ends_at_directory t (Ok i) root h = by_test (is_directory_at (body_at t.records i)) refl h where
  by_test : (b : Bool) → is_directory_at (body_at t.records i) ≡ b
      → cond {A = Result ℕ ℕ} b (Ok i) (Err 20) ≡ Ok root
      → is_directory_at (body_at t.records root) ≡ true
  by_test true is e = let same : i ≡ root = cc in subst
      (λ k. is_directory_at (body_at t.records k) ≡ true) same is
  by_test false is e = absurd cc

-- what a path leads to is a directory
pub root_is_directory : (t : Tree) (names : List (List ℕ)) (at : Result ℕ ℕ) (root : ℕ)
    → walk_on t at names ≡ Ok root → is_directory_at (body_at t.records root) ≡ true
root_is_directory t [] at root h = ends_at_directory t at root h
root_is_directory t (name ∷ names) at root h =
    root_is_directory t names (walk_step t name at) root h

pub stored_by : (o : Option Record) → is_directory_at (option_map (λ (r : Record). r.body) o) ≡ true
    → IsSome o
stored_by None h = h
stored_by (Some r) h = refl

module _ (s : Settings) (t : Tree) (root : ℕ) where
  abbrev pub root_node : Node
  root_node = record { ino = root; count = 1 }

  pub one_node : (q : ℕ) (n : Node) → get (begun t root).nodes q ≡ Some n → (q ≡ FUSE_ROOT_ID)
      × (root_node ≡ n)
  one_node q n at = ⊎_elim
      (λ equal. (
        equal,
        (let one : Some root_node ≡ Some n =
            sym (inserted empty FUSE_ROOT_ID root_node)
            ∙ subst (λ k. get (begun t root).nodes k ≡ Some n) equal at in cc),
      ))
      (λ ne. absurd (let none : None ≡ Some n = sym (get-empty {X = Node} nat_cmp q)
      ∙ sym (insert_keeps empty FUSE_ROOT_ID root_node q ne) ∙ at in cc))
      (cases_eq q FUSE_ROOT_ID)

  no_handle : (q : ℕ) → get (begun t root).handles q ≡ None
  no_handle q = get-empty {X = Handle} nat_cmp q

  one_long : len (begun t root).nodes + len (begun t root).handles ≡ 1
  one_long =
      let nodes : len (begun t root).nodes ≡ 1 =
      len-insert nat_cmp_total empty FUSE_ROOT_ID root_node
      ∙ ap (λ (o : Option Node). cond (is_some o) (len (empty {X = Node} {R = nat_cmp}))
      (len (empty {X = Node} {R = nat_cmp}) + 1)) (get-empty {X = Node} nat_cmp FUSE_ROOT_ID)
      ∙ ap (λ k. k + 1) (len-empty nat_cmp Node) in
      let handles : len (begun t root).handles ≡ 0 = len-empty nat_cmp Handle in
      omega (arith, nodes, handles)

  pub begun_good : IsGoodTree t → root_of t s.root ≡ Ok root → 1 ≤ s.limit
      → IsGoodMachine s (begun t root)
  begun_good good found room =
      let had : IsSome (get t.records root) =
      stored_by (get t.records root) (root_is_directory t s.root (Ok TOP) root found) in
      record {
        tree = good;
        root = subst IsSome (sym (inserted empty FUSE_ROOT_ID root_node)) refl;
        nodes = λ q n at. let one = one_node q n at in record {
          positive = subst (λ k. 1 ≤ k) (sym one.0) (omega arith);
          drawn = subst (λ k. k < 2) (sym one.0) (omega arith);
          counted = subst (λ (n : Node). 1 ≤ n.count) one.1 (omega arith);
          stored = subst (λ (n : Node). IsSome (get t.records n.ino)) one.1 had;
        };
        handles = λ q h at. absurd (let none : None ≡ Some h = sym (no_handle q) ∙ at in cc);
        apart = λ q n at. no_handle q;
        once = λ a b p q at_a at_b same. (one_node a p at_a).0 ∙ sym (one_node b q at_b).0;
        next = omega arith;
        within = subst (λ k. k ≤ s.limit) (sym one_long) room;
      }
