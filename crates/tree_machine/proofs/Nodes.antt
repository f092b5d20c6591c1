-- Nodes: one more, one with another count, and one that goes.
use Rattle.std.proofs.Common.{◌≡◌, ◌≢◌, ℕ, ◌+◌, ◌-◌, ◌<◌, ◌≤◌, Bool, true, false, cond, refl, sym}
use Rattle.std.proofs.Common.{ap, ◌∙◌, subst, Option, Some, None, ◌⊎◌, inl, inr, ⊎_elim, arith}
use Rattle.std.proofs.Common.{IsSome, min}
use Rattle.std.specs.Prelude.{◌==◌, is_some}
use Rattle.std.proofs.lemmas.Bool.{cases_eq, false≢true}
use Rattle.std.proofs.lemmas.Bool.Decides.{nat_tests}
use borrow.Author.Tests.{eqb-true}
use Rattle.std.specs.Ordering.{nat_cmp}
use Rattle.std.specs.Cmp.{nat_cmp_total}
use Rattle.std.specs.FinMap.{FinMap, get, insert, remove, len, len-insert, len-remove, contains_key}
use Rattle.tree_model.specs.Settings.{Settings}
use Rattle.tree_model.proofs.Maps.{inserted, insert_keeps, removed, remove_keeps}
use Rattle.fuse_wire.specs.declared.protocol.TheConstants.{FUSE_ROOT_ID}
use Rattle.tree_machine.specs.declared.limits.TheConstants.{NUMBER_LIMIT}
use Rattle.tree_machine.specs.State.{MachineState, Node, Handle, is_at_limit, COUNT_LIMIT}
use Rattle.tree_machine.specs.Core.{node_for, node_of}
use Rattle.tree_machine.specs.Good.{IsGoodMachine}
use Rattle.tree_machine.proofs.First.{first_entry, none_passes}

pub len_fewer : {X : Type 0} (m : FinMap nat_cmp X) (k : ℕ) → len (remove m k) ≤ len m
len_fewer m k = by_test (contains_key m k) (len-remove nat_cmp_total m k) where
  by_test : (b : Bool) → len (remove m k) ≡ cond b (len m - 1) (len m) → len (remove m k) ≤ len m
  by_test true e = omega (arith, e)
  by_test false e = omega (arith, e)

module _ (s : Settings) where
  module _ (m : MachineState) (g : IsGoodMachine s m) where
    -- the nodes with one more, or with another count of one
    module _ (id : ℕ) (v : Node) (next : ℕ) where
      put_at : (q : ℕ) (n : Node) → get (insert m.nodes id v) q ≡ Some n → ((q ≡ id) × (v ≡ n))
          ⊎ ((q ≢ id) × (get m.nodes q ≡ Some n))
      put_at q n at = ⊎_elim
          (λ is. inl (
            is,
            (let one : Some v ≡ Some n = sym (inserted m.nodes id v)
                ∙ subst (λ k. get (insert m.nodes id v) k ≡ Some n) is at in cc),
          ))
          (λ ne. inr (ne, sym (insert_keeps m.nodes id v q ne) ∙ at))
          (cases_eq q id)

      still_root : IsSome (get (insert m.nodes id v) FUSE_ROOT_ID)
      still_root = ⊎_elim
          (λ is. subst IsSome (sym (subst (λ k. get (insert m.nodes id v) k ≡ Some v) (sym is)
          (inserted m.nodes id v))) refl)
          (λ ne. subst IsSome (sym (insert_keeps m.nodes id v FUSE_ROOT_ID ne)) g.root)
          (cases_eq FUSE_ROOT_ID id)

      put : 1 ≤ id → id < next → 1 ≤ v.count → IsSome (get m.tree.records v.ino)
          → get m.handles id ≡ None
          → ((q : ℕ) (n : Node) → q ≢ id → get m.nodes q ≡ Some n → n.ino ≢ v.ino)
          → m.next ≤ next → next ≤ NUMBER_LIMIT
          → len (insert m.nodes id v) + len m.handles ≤ s.limit
          → IsGoodMachine s (record m { nodes = insert m.nodes id v; next = next })
      put low lt count stored free differ le end room = record {
        tree = g.tree;
        root = still_root;
        nodes = λ q n at. ⊎_elim
            (λ is. record {
              positive = subst (λ k. 1 ≤ k) (sym is.0) low;
              drawn = subst (λ k. k < next) (sym is.0) lt;
              counted = subst (λ (n : Node). 1 ≤ n.count) is.1 count;
              stored = subst (λ (n : Node). IsSome (get m.tree.records n.ino)) is.1 stored;
            })
            (λ old. let good = g.nodes q n old.1 in record {
              positive = good.positive;
              drawn = (let d = good.drawn in omega arith);
              counted = good.counted;
              stored = good.stored;
            })
            (put_at q n at);
        handles = λ q h at. let good = g.handles q h at in record {
          positive = good.positive;
          drawn = (let d = good.drawn in omega arith);
          access =
              good.access;
          openable = good.openable;
        };
        apart = λ q n at. ⊎_elim (λ is. subst (λ k. get m.handles k ≡ None) (sym is.0) free)
            (λ old. g.apart q n old.1) (put_at q n at);
        once = λ a b p q at_a at_b same. ⊎_elim
            (λ is_a. ⊎_elim (λ is_b. is_a.0 ∙ sym is_b.0)
            (λ old_b. absurd (differ b q old_b.0 old_b.1
            (sym same ∙ ap (λ (n : Node). n.ino) (sym is_a.1)))) (put_at b q at_b))
            (λ old_a. ⊎_elim (λ is_b. absurd (differ a p old_a.0 old_a.1
            (same ∙ ap (λ (n : Node). n.ino) (sym is_b.1))))
            (λ old_b. g.once a b p q old_a.1 old_b.1 same) (put_at b q at_b))
            (put_at a p at_a);
        next = end;
        within = room;
      }

    len_known : (id : ℕ) (n v : Node) → get m.nodes id ≡ Some n
        → len (insert m.nodes id v) ≡ len m.nodes
    len_known id n v at = len-insert nat_cmp_total m.nodes id v
        ∙ ap (λ (o : Option Node). cond (is_some o) (len m.nodes) (len m.nodes + 1)) at

    len_new : (id : ℕ) (v : Node) → get m.nodes id ≡ None
        → len (insert m.nodes id v) ≡ len m.nodes + 1
    len_new id v at = len-insert nat_cmp_total m.nodes id v
        ∙ ap (λ (o : Option Node). cond (is_some o) (len m.nodes) (len m.nodes + 1)) at

    -- a node that keeps its inode, with another count
    pub recounted : (id : ℕ) (n v : Node) → get m.nodes id ≡ Some n → v.ino ≡ n.ino → 1 ≤ v.count
        → IsGoodMachine s (record m { nodes = insert m.nodes id v })
    recounted id n v at same count =
        let old = g.nodes id n at in
        put id v m.next old.positive old.drawn count
        (subst (λ i. IsSome (get m.tree.records i)) (sym same) old.stored) (g.apart id n at)
        (λ q x ne there equal. ne (g.once q id x n there at (equal ∙ same)))
        (omega arith) g.next (subst (λ k. k + len m.handles ≤ s.limit) (sym (len_known id n v at))
        g.within)

    pub fresh : (o : Option Node) → get m.nodes m.next ≡ o → get m.nodes m.next ≡ None
    fresh None at = at
    fresh (Some n) at = absurd (let low = (g.nodes m.next n at).drawn in omega arith)

    pub fresh_handle : (o : Option Handle) → get m.handles m.next ≡ o → get m.handles m.next ≡ None
    fresh_handle None at = at
    fresh_handle (Some h) at = absurd (let low = (g.handles m.next h at).drawn in omega arith)

    pub root_below : 1 < m.next
    root_below = by_root (get m.nodes FUSE_ROOT_ID) refl where
      by_root : (o : Option Node) → get m.nodes FUSE_ROOT_ID ≡ o → 1 < m.next
      by_root None at = absurd (false≢true (subst IsSome at g.root))
      by_root (Some n) at = (g.nodes FUSE_ROOT_ID n at).drawn

    -- below the limit there is room for one more number
    pub below_limit : is_at_limit s m ≡ false → (len m.nodes + len m.handles < s.limit)
        × (m.next < NUMBER_LIMIT)
    below_limit open_limit = grind (arith, nat_tests)

    -- the next number becomes the node of an inode that has none
    drawn_new : (ino : ℕ) → IsSome (get m.tree.records ino) → node_of m ino ≡ None
        → is_at_limit s m ≡ false
        → IsGoodMachine s (record m {
          nodes =
              insert m.nodes m.next (record { ino = ino; count = 1 });
          next = m.next + 1;
        })
    drawn_new ino had none open_limit =
        let v : Node = record { ino = ino; count = 1 } in
        let low = root_below in
        let room : (len m.nodes + len m.handles < s.limit) × (m.next < NUMBER_LIMIT) =
        below_limit open_limit in
        let longer = len_new m.next v (fresh (get m.nodes m.next) refl) in
        put m.next v (m.next + 1) (omega arith) (omega arith) (omega arith) had
        (fresh_handle (get m.handles m.next) refl)
        (λ q n ne there same. false≢true (sym
        (none_passes (λ (e : ℕ × Node). e.1.ino == ino) m.nodes q n none there)
        ∙ eq_test n.ino ino same))
        (omega arith) (omega (arith, room.1)) (omega (arith, room.0, longer)) where
          eq_test : (a b : ℕ) → a ≡ b → (a == b) ≡ true
          eq_test a b h = grind (arith, nat_tests)

    pub given_good : (ino : ℕ) → IsSome (get m.tree.records ino) → is_at_limit s m ≡ false
        → (o : Option (ℕ × Node)) → node_of m ino ≡ o → IsGoodMachine s (node_for m ino o).1
    given_good ino had open_limit None at = drawn_new ino had at open_limit
    given_good ino had open_limit (Some e) at =
        let there = first_entry (λ (e : ℕ × Node). e.1.ino == ino) m.nodes e at in
        recounted e.0 e.1 (record { ino = ino; count = min (e.1.count + 1) COUNT_LIMIT }) there.0
        (sym (eqb-true e.1.ino ino there.1)) (omega arith)

    -- a node that isn't the root goes
    pub node_gone : (id : ℕ) → id ≢ FUSE_ROOT_ID
        → IsGoodMachine s (record m { nodes = remove m.nodes id })
    node_gone id ne = record {
      tree = g.tree;
      root = subst IsSome (sym (remove_keeps m.nodes id FUSE_ROOT_ID (λ h. ne (sym h)))) g.root;
      nodes = λ q n at. let good = g.nodes q n (left q n at) in record {
        positive = good.positive;
        drawn = good.drawn;
        counted = good.counted;
        stored =
            good.stored;
      };
      handles = λ q h at. let good = g.handles q h at in record {
        positive = good.positive;
        drawn = good.drawn;
        access = good.access;
        openable =
            good.openable;
      };
      apart = λ q n at. g.apart q n (left q n at);
      once = λ a b p q at_a at_b same. g.once a b p q (left a p at_a) (left b q at_b) same;
      next = g.next;
      within = (let fewer = len_fewer m.nodes id in let room = g.within in omega arith);
    } where
      left : (q : ℕ) (n : Node) → get (remove m.nodes id) q ≡ Some n → get m.nodes q ≡ Some n
      left q n at = ⊎_elim
          (λ is. absurd (let none : None ≡ Some n = sym (removed m.nodes id)
          ∙ subst (λ k. get (remove m.nodes id) k ≡ Some n) is at in cc))
          (λ differ. sym (remove_keeps m.nodes id q differ) ∙ at)
          (cases_eq q id)
