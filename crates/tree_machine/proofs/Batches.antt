-- A batch goes pair by pair: the records may go after each pair, or after the last.
use Rattle.std.proofs.Common.{◌≡◌, ℕ, ◌+◌, ◌-◌, ◌≤◌, Bool, true, false, cond, ◌||◌, List, [], ◌∷◌}
use Rattle.std.proofs.Common.{refl, sym, ap, ◌∙◌, Option, Some, None, arith, nat_lt, nat_le}
use Rattle.std.specs.Prelude.{◌==◌}
use Rattle.std.proofs.lemmas.Bool.Decides.{nat_tests}
use Rattle.std.specs.FinMap.{get, entries}
use Rattle.tree_model.specs.Tree.{Tree, Records, is_linked, weigh, weight, keep}
use Rattle.tree_model.specs.Good.{IsGoodTree}
use Rattle.tree_model.proofs.Maps.{retained, same_gets}
use Rattle.tree_model.proofs.Counting.{weigh-insert, weigh-remove}
use Rattle.tree_model.proofs.Keeping.{retained-is_linked}
use Rattle.fuse_wire.specs.declared.protocol.TheConstants.{FUSE_ROOT_ID}
use Rattle.tree_machine.specs.State.{MachineState, Node, is_named, node_weight, kept_state}
use Rattle.tree_machine.specs.Forgetting.{less_where, forgotten, all_forgotten}
use Rattle.tree_machine.specs.Messages.{gone}
use Rattle.tree_machine.proofs.Forgetting.{with_count, without}

merged : {X : Type 0} (linked held less : Bool) (o : Option X) → (less ≡ true → held ≡ true)
    → cond (linked || less) (cond (linked || held) o None) None ≡ cond (linked || less) o None
merged true held less o within = refl
merged false held true o within = ap (λ b. cond b o None) (within refl)
merged false held false o within = refl

-- what is kept for more, and then for less, is what is kept for less
keep_again : (t : Tree) → IsGoodTree t → (held less : ℕ → Bool)
    → ((i : ℕ) → less i ≡ true → held i ≡ true) → keep less (keep held t) ≡ keep less t
keep_again t g held less within = ap (λ (rs : Records). record t { records = rs })
    (same_gets _ _ at) where
      at : (q : ℕ) → get (keep less (keep held t)).records q ≡ get (keep less t).records q
      at q =
          retained (keep held t).records (λ i. is_linked (keep held t).records i || less i) q
          ∙ ap (λ b. cond (b || less q) (get (keep held t).records q) None)
          (retained-is_linked t g (λ i. is_linked t.records i || held i)
          (λ i live. ap (λ b. b || held i) live) q)
          ∙ ap (λ o. cond (is_linked t.records q || less q) o None)
          (retained t.records (λ i. is_linked t.records i || held i) q)
          ∙ merged (is_linked t.records q) (held q) (less q) (get t.records q) (within q)
          ∙ sym (retained t.records (λ i. is_linked t.records i || less i) q)

-- ---- what is counted down is the nodes alone, and by the nodes alone

module _ (m : MachineState) (node number : ℕ) where
  same_rest : (n : Node) (b : Bool) → cond b (without m node) (with_count m node number n) ≡ record
      m { nodes = (cond b (without m node) (with_count m node number n)).nodes }
  same_rest n true = refl
  same_rest n false = refl

  where_rest : (o : Option Node) → less_where m node number o ≡ record m
      { nodes = (less_where m node number o).nodes }
  where_rest None = refl
  where_rest (Some n) = same_rest n (nat_le n.count number)

  root_rest : (b : Bool) (o : Option Node) → cond b m (less_where m node number o) ≡ record m
      { nodes = (cond b m (less_where m node number o)).nodes }
  root_rest true o = refl
  root_rest false o = where_rest o

  pub forgotten_rest : forgotten m node number ≡ record m
      { nodes = (forgotten m node number).nodes }
  forgotten_rest = root_rest (node == FUSE_ROOT_ID) (get m.nodes node)

  same_tree : (t : Tree) (n : Node) (b : Bool)
      → cond b (without (record m { tree = t }) node)
      (with_count (record m { tree = t }) node number n) ≡ record
      (cond b (without m node) (with_count m node number n)) { tree = t }
  same_tree t n true = refl
  same_tree t n false = refl

  where_tree : (t : Tree) (o : Option Node) → less_where (record m { tree = t }) node number o
      ≡ record (less_where m node number o) { tree = t }
  where_tree t None = refl
  where_tree t (Some n) = same_tree t n (nat_le n.count number)

  root_tree : (t : Tree) (b : Bool) (o : Option Node)
      → cond b (record m { tree = t }) (less_where (record m { tree = t }) node number o) ≡ record
      (cond b m (less_where m node number o)) { tree = t }
  root_tree t true o = refl
  root_tree t false o = where_tree t o

  pub forgotten_tree : (t : Tree) → forgotten (record m { tree = t }) node number ≡ record
      (forgotten m node number) { tree = t }
  forgotten_tree t = root_tree t (node == FUSE_ROOT_ID) (get m.nodes node)

  -- ---- no inode is named more often

  less_named : (i : ℕ) (n : Node) → get m.nodes node ≡ Some n → (b : Bool)
      → weigh (node_weight i) (entries (cond b (without m node) (with_count m node number n)).nodes)
      ≤ weigh (node_weight i) (entries m.nodes)
  less_named i n at true = let step = weigh-remove (node_weight i) m.nodes node n at in omega
      (arith, step)
  less_named i n at false =
      let v : Node = record { ino = n.ino; count = n.count - number } in
      let step = weigh-insert (node_weight i) m.nodes node v in
      let had : weight (node_weight i) (get m.nodes node) ≡ node_weight i n =
      ap (weight (node_weight i)) at in
      omega (arith, step, had)

  where_named : (i : ℕ) (o : Option Node) → get m.nodes node ≡ o
      → weigh (node_weight i) (entries (less_where m node number o).nodes) ≤ weigh (node_weight i)
      (entries m.nodes)
  where_named i None at = omega arith
  where_named i (Some n) at = less_named i n at (nat_le n.count number)

  root_named : (i : ℕ) (b : Bool) → weigh (node_weight i)
      (entries (cond b m (less_where m node number (get m.nodes node))).nodes) ≤ weigh
      (node_weight i) (entries m.nodes)
  root_named i true = omega arith
  root_named i false = where_named i (get m.nodes node) refl

  pub forgotten_named : (i : ℕ) → weigh (node_weight i) (entries (forgotten m node number).nodes)
      ≤ weigh (node_weight i) (entries m.nodes)
  forgotten_named i = root_named i (node == FUSE_ROOT_ID)

pub all_rest : (m : MachineState) (ps : List (ℕ × ℕ))
    → all_forgotten m ps ≡ record m { nodes = (all_forgotten m ps).nodes }
all_rest m [] = refl
all_rest m (p ∷ ps) =
    all_rest (forgotten m p.0 p.1) ps
    ∙ ap (λ (x : MachineState). record x { nodes = (all_forgotten (forgotten m p.0 p.1) ps).nodes })
    (forgotten_rest m p.0 p.1)

pub all_tree : (m : MachineState) (t : Tree) (ps : List (ℕ × ℕ))
    → all_forgotten (record m { tree = t }) ps ≡ record (all_forgotten m ps) { tree = t }
all_tree m t [] = refl
all_tree m t (p ∷ ps) = ap (λ (x : MachineState). all_forgotten x ps) (forgotten_tree m p.0 p.1 t)
    ∙ all_tree (forgotten m p.0 p.1) t ps

all_named : (m : MachineState) (ps : List (ℕ × ℕ)) (i : ℕ)
    → weigh (node_weight i) (entries (all_forgotten m ps).nodes) ≤ weigh (node_weight i)
    (entries m.nodes)
all_named m [] i = omega arith
all_named m (p ∷ ps) i = let one = forgotten_named m p.0 p.1 i in let rest =
    all_named (forgotten m p.0 p.1) ps i in omega (arith, one, rest)

lt_more : (a b c : ℕ) → a ≤ b → nat_lt 0 (a + c) ≡ true → nat_lt 0 (b + c) ≡ true
lt_more a b c le h = grind (arith, nat_tests)

still_named : (m : MachineState) (ps : List (ℕ × ℕ)) (i : ℕ)
    → is_named (all_forgotten m ps).nodes (all_forgotten m ps).handles i ≡ true
    → is_named m.nodes m.handles i ≡ true
still_named m ps i h =
    lt_more _ _ _ (all_named m ps i)
    (sym (ap (λ (x : MachineState). is_named (all_forgotten m ps).nodes x.handles i)
    (all_rest m ps)) ∙ h)

-- the records go that nothing names, and the pairs are counted down: in either order the same is
-- left
pub kept_between : (m : MachineState) (ps : List (ℕ × ℕ)) → IsGoodTree m.tree
    → kept_state (all_forgotten (kept_state m) ps) ≡ kept_state (all_forgotten m ps)
kept_between m ps g =
    ap kept_state (all_tree m (kept_state m).tree ps)
    ∙ ap (λ (t : Tree). record (all_forgotten m ps) { tree = t })
    (keep_again m.tree g (is_named m.nodes m.handles)
    (is_named (all_forgotten m ps).nodes (all_forgotten m ps).handles) (still_named m ps))
    ∙ ap (λ (t : Tree). record (all_forgotten m ps)
    { tree = keep (is_named (all_forgotten m ps).nodes (all_forgotten m ps).handles) t })
    (sym (ap (λ (x : MachineState). x.tree) (all_rest m ps)))

-- and as many nodes go
pub gone_between : (m : MachineState) (ps : List (ℕ × ℕ))
    → gone (kept_state m) (all_forgotten (kept_state m) ps) ≡ gone m (all_forgotten m ps)
gone_between m ps = ap (λ (x : MachineState). gone m x) (all_tree m (kept_state m).tree ps)
