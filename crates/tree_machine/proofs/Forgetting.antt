-- FORGET and BATCH_FORGET leave a good state; how many nodes went, pair by pair.
use Rattle.std.proofs.Common.{◌≡◌, ◌≢◌, ℕ, ◌+◌, ◌-◌, ◌≤◌, Bool, true, false, cond, List, [], ◌∷◌}
use Rattle.std.proofs.Common.{refl, ap, ◌∙◌, Option, Some, None, arith, nat_le}
use Rattle.std.specs.Prelude.{◌==◌, is_some}
use Rattle.std.proofs.lemmas.Bool.Decides.{nat_tests}
use Rattle.std.specs.Cmp.{nat_cmp_total}
use Rattle.std.specs.FinMap.{get, insert, remove, len, len-insert, len-remove}
use Rattle.tree_model.specs.Settings.{Settings}
use Rattle.tree_model.proofs.Maps.{removed}
use Rattle.tree_model.proofs.Counting.{put_back}
use Rattle.fuse_wire.specs.declared.protocol.TheConstants.{FUSE_ROOT_ID}
use Rattle.tree_machine.specs.State.{MachineState, Node}
use Rattle.tree_machine.specs.Forgetting.{less_where, forgotten, all_forgotten}
use Rattle.tree_machine.specs.Messages.{gone}
use Rattle.tree_machine.specs.Good.{IsGoodMachine}
use Rattle.tree_machine.proofs.Nodes.{recounted, node_gone, len_fewer}

abbrev pub with_count : MachineState → ℕ → ℕ → Node → MachineState
with_count m node number n = record m {
  nodes =
      insert m.nodes node (record { ino = n.ino; count = n.count - number });
}

abbrev pub without : MachineState → ℕ → MachineState
without m node = record m { nodes = remove m.nodes node }

ne_test : (a b : ℕ) → (a == b) ≡ false → a ≢ b
ne_test a b h e = grind (arith, nat_tests)

more_left : (count number : ℕ) → nat_le count number ≡ false → 1 ≤ count - number
more_left count number h = grind (arith, nat_tests)

module _ (s : Settings) (m : MachineState) (g : IsGoodMachine s m) (node number : ℕ) where
  less_good : node ≢ FUSE_ROOT_ID → (n : Node) → get m.nodes node ≡ Some n → (b : Bool)
      → nat_le n.count number ≡ b → IsGoodMachine s
      (cond b (without m node) (with_count m node number n))
  less_good ne n at true is = node_gone s m g node ne
  less_good ne n at false is = recounted s m g node n
      (record { ino = n.ino; count = n.count - number }) at refl (more_left n.count number is)

  where_good : node ≢ FUSE_ROOT_ID → (o : Option Node) → get m.nodes node ≡ o
      → IsGoodMachine s (less_where m node number o)
  where_good ne None at = g
  where_good ne (Some n) at = less_good ne n at (nat_le n.count number) refl

  not_root_good : (b : Bool) → (node == FUSE_ROOT_ID) ≡ b
      → IsGoodMachine s (cond b m (less_where m node number (get m.nodes node)))
  not_root_good true is = g
  not_root_good false is = where_good (ne_test node FUSE_ROOT_ID is) (get m.nodes node) refl

  pub forgotten_good : IsGoodMachine s (forgotten m node number)
  forgotten_good = not_root_good (node == FUSE_ROOT_ID) refl

pub all_forgotten_good : (s : Settings) (m : MachineState) → IsGoodMachine s m → (ps : List (ℕ × ℕ))
    → IsGoodMachine s (all_forgotten m ps)
all_forgotten_good s m g [] = g
all_forgotten_good s m g (p ∷ ps) = all_forgotten_good s (forgotten m p.0 p.1)
    (forgotten_good s m g p.0 p.1) ps

-- ---- how many went

module _ (m : MachineState) (node number : ℕ) where
  -- a count that falls takes no node away
  pub same_many : (n v : Node) → get m.nodes node ≡ Some n
      → len (insert m.nodes node v) ≡ len m.nodes
  same_many n v at = len-insert nat_cmp_total m.nodes node v
      ∙ ap (λ (o : Option Node). cond (is_some o) (len m.nodes) (len m.nodes + 1)) at

  less_fewer : (n : Node) → get m.nodes node ≡ Some n → (b : Bool)
      → len (cond b (without m node) (with_count m node number n)).nodes ≤ len m.nodes
  less_fewer n at true = len_fewer m.nodes node
  less_fewer n at false = omega (
    arith,
    same_many n
        (record { ino = n.ino; count = n.count - number }) at,
  )

  where_fewer : (o : Option Node) → get m.nodes node ≡ o
      → len (less_where m node number o).nodes ≤ len m.nodes
  where_fewer None at = omega arith
  where_fewer (Some n) at = less_fewer n at (nat_le n.count number)

  not_root_fewer : (b : Bool) → len (cond b m (less_where m node number (get m.nodes node))).nodes
      ≤ len m.nodes
  not_root_fewer true = omega arith
  not_root_fewer false = where_fewer (get m.nodes node) refl

  pub forgotten_fewer : len (forgotten m node number).nodes ≤ len m.nodes
  forgotten_fewer = not_root_fewer (node == FUSE_ROOT_ID)

pub all_fewer : (m : MachineState) (ps : List (ℕ × ℕ))
    → len (all_forgotten m ps).nodes ≤ len m.nodes
all_fewer m [] = omega arith
all_fewer m (p ∷ ps) = let one = forgotten_fewer m p.0 p.1 in let rest =
    all_fewer (forgotten m p.0 p.1) ps in omega (arith, one, rest)

-- those of a batch are those of its first pair, and those of the others from what that leaves
pub gone_then : (m : MachineState) (p : ℕ × ℕ) (ps : List (ℕ × ℕ))
    → gone m (all_forgotten m (p ∷ ps)) ≡ gone m (forgotten m p.0 p.1) + gone (forgotten m p.0 p.1)
    (all_forgotten (forgotten m p.0 p.1) ps)
gone_then m p ps = let one = forgotten_fewer m p.0 p.1 in let rest =
    all_fewer (forgotten m p.0 p.1) ps in omega (arith, one, rest)

-- a known node that goes is one
pub gone_one : (m : MachineState) (node : ℕ) (n : Node) → get m.nodes node ≡ Some n
    → gone m (without m node) ≡ 1
gone_one m node n at =
    let fewer : len (remove m.nodes node) ≡ len m.nodes - 1 = len-remove nat_cmp_total m.nodes node
    ∙ ap (λ (o : Option Node). cond (is_some o) (len m.nodes - 1) (len m.nodes)) at in
    let back : len (insert (remove m.nodes node) node n) ≡ len (remove m.nodes node) + 1 =
    len-insert nat_cmp_total (remove m.nodes node) node n
    ∙ ap (λ (o : Option Node). cond (is_some o) (len (remove m.nodes node))
    (len (remove m.nodes node) + 1)) (removed m.nodes node) in
    let whole : len (insert (remove m.nodes node) node n) ≡ len m.nodes =
    ap len (put_back m.nodes node n at) in
    omega (arith, fewer, back, whole)
