-- Handles: one more, and one that goes.
use Rattle.std.proofs.Common.{◌≡◌, ◌≢◌, ℕ, ◌+◌, ◌<◌, ◌≤◌, false, cond, refl, sym, ap, ◌∙◌, subst}
use Rattle.std.proofs.Common.{Option, Some, None, ◌⊎◌, inl, inr, ⊎_elim, arith, true, nat_lt}
use Rattle.std.specs.Prelude.{is_some}
use Rattle.std.proofs.lemmas.Bool.{cases_eq}
use Rattle.std.proofs.lemmas.Bool.Decides.{nat_tests}
use Rattle.std.specs.Cmp.{nat_cmp_total}
use Rattle.std.specs.FinMap.{get, insert, remove, entries, len, len-insert}
use Rattle.tree_model.specs.Tree.{body_at, weigh, weight}
use Rattle.port_base.specs.OpenFlags.{access}
use Rattle.tree_model.specs.Settings.{Settings}
use Rattle.tree_model.proofs.Maps.{inserted, insert_keeps, removed, remove_keeps}
use Rattle.tree_model.proofs.Counting.{weigh-insert}
use Rattle.tree_machine.specs.State.{MachineState, Handle, is_at_limit, is_named, node_weight}
use Rattle.tree_machine.specs.State.{handle_weight}
use Rattle.tree_machine.specs.Good.{IsGoodMachine, IsOpenable}
use Rattle.tree_machine.proofs.Nodes.{fresh_handle, root_below, below_limit, len_fewer}

module _ (s : Settings) (m : MachineState) (g : IsGoodMachine s m) where
  -- the next number becomes a handle
  pub handle_drawn : (v : Handle) → v.access < 3 → IsOpenable (body_at m.tree.records v.ino) v
      → is_at_limit s m ≡ false
      → IsGoodMachine s (record m { handles = insert m.handles m.next v; next = m.next + 1 })
  handle_drawn v access openable open_limit = record {
    tree = g.tree;
    root = g.root;
    nodes = λ q n at. let good = g.nodes q n at in record {
      positive = good.positive;
      drawn = (let d = good.drawn in omega arith);
      counted =
          good.counted;
      stored = good.stored;
    };
    handles = λ q h at. ⊎_elim
        (λ is. record {
          positive = subst (λ k. 1 ≤ k) (sym is.0) (let low = root_below s m g in omega arith);
          drawn = subst (λ k. k < m.next + 1) (sym is.0) (omega arith);
          access = subst (λ (h : Handle). h.access < 3) is.1 access;
          openable = subst (λ (h : Handle). IsOpenable (body_at m.tree.records h.ino) h) is.1
              openable;
        })
        (λ old. let good = g.handles q h old.1 in record {
          positive = good.positive;
          drawn = (let d = good.drawn in omega arith);
          access =
              good.access;
          openable = good.openable;
        })
        (put_at q h at);
    apart = λ q n at. insert_keeps m.handles m.next v q
        (λ is. let d = (g.nodes q n at).drawn in omega (arith, is, d)) ∙ g.apart q n at;
    once = g.once;
    next = (let room = (below_limit s m g open_limit).1 in omega arith);
    within = (let room = (below_limit s m g open_limit).0 in omega (arith, room, longer));
  } where
    put_at : (q : ℕ) (h : Handle) → get (insert m.handles m.next v) q ≡ Some h
        → ((q ≡ m.next) × (v ≡ h)) ⊎ ((q ≢ m.next) × (get m.handles q ≡ Some h))
    put_at q h at = ⊎_elim
        (λ is. inl (
          is,
          (let one : Some v ≡ Some h = sym (inserted m.handles m.next v)
              ∙ subst (λ k. get (insert m.handles m.next v) k ≡ Some h) is at in cc),
        ))
        (λ ne. inr (ne, sym (insert_keeps m.handles m.next v q ne) ∙ at))
        (cases_eq q m.next)

    longer : len (insert m.handles m.next v) ≡ len m.handles + 1
    longer = len-insert nat_cmp_total m.handles m.next v
        ∙ ap (λ (o : Option Handle). cond (is_some o) (len m.handles) (len m.handles + 1))
        (fresh_handle s m g (get m.handles m.next) refl)

  -- what is named still is
  pub drawn_named : (v : Handle) (i : ℕ) → is_named m.nodes m.handles i ≡ true
      → is_named m.nodes (insert m.handles m.next v) i ≡ true
  drawn_named v i is =
      let free = ap (weight (handle_weight i)) (fresh_handle s m g (get m.handles m.next) refl) in
      let step = weigh-insert (handle_weight i) m.handles m.next v in
      more (weigh (node_weight i) (entries m.nodes)) (weigh (handle_weight i) (entries m.handles))
      (weigh (handle_weight i) (entries (insert m.handles m.next v))) (omega (arith, free, step)) is
    where
      more : (a b c : ℕ) → b ≤ c → nat_lt 0 (a + b) ≡ true → nat_lt 0 (a + c) ≡ true
      more a b c low is = grind (arith, nat_tests)

  -- a handle goes
  pub handle_gone : (id : ℕ) → IsGoodMachine s (record m { handles = remove m.handles id })
  handle_gone id = record {
    tree = g.tree;
    root = g.root;
    nodes = λ q n at. let good = g.nodes q n at in record {
      positive = good.positive;
      drawn = good.drawn;
      counted = good.counted;
      stored =
          good.stored;
    };
    handles = λ q h at. let good = g.handles q h (left q h at) in record {
      positive = good.positive;
      drawn = good.drawn;
      access = good.access;
      openable =
          good.openable;
    };
    apart = λ q n at. none_left q (g.apart q n at);
    once = g.once;
    next = g.next;
    within = (let fewer = len_fewer m.handles id in let room = g.within in omega arith);
  } where
    left : (q : ℕ) (h : Handle) → get (remove m.handles id) q ≡ Some h → get m.handles q ≡ Some h
    left q h at = ⊎_elim
        (λ is. absurd (let none : None ≡ Some h = sym (removed m.handles id)
        ∙ subst (λ k. get (remove m.handles id) k ≡ Some h) is at in cc))
        (λ differ. sym (remove_keeps m.handles id q differ) ∙ at)
        (cases_eq q id)

    none_left : (q : ℕ) → get m.handles q ≡ None → get (remove m.handles id) q ≡ None
    none_left q none = ⊎_elim
        (λ is. subst (λ k. get (remove m.handles id) k ≡ None) (sym is) (removed m.handles id))
        (λ differ. remove_keeps m.handles id q differ ∙ none)
        (cases_eq q id)
