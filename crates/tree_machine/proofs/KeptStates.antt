-- A good state stays good when the records go that nothing names.
use Rattle.std.proofs.Common.{◌≡◌, ℕ, ◌+◌, ◌<◌, Bool, true, false, cond, ◌||◌, refl, sym, ap, ◌∙◌}
use Rattle.std.proofs.Common.{subst, Option, Some, None, arith, IsSome, nat_lt}
use Rattle.std.specs.Prelude.{option_map}
use Rattle.std.proofs.lemmas.Bool.Decides.{nat_tests}
use Rattle.std.specs.Ordering.{nat_cmp}
use Rattle.std.specs.FinMap.{FinMap, get, entries}
use Rattle.tree_model.specs.Tree.{Tree, Record, body_at, is_linked, weigh, keep}
use Rattle.tree_model.specs.Settings.{Settings}
use Rattle.tree_model.proofs.Maps.{retained}
use Rattle.tree_model.proofs.Counting.{weigh-remove}
use Rattle.tree_model.proofs.Keeping.{keep_good}
use Rattle.tree_machine.specs.State.{MachineState, Node, Handle, is_named, node_weight}
use Rattle.tree_machine.specs.State.{handle_weight, kept_state}
use Rattle.tree_machine.specs.Replies.{Reply}
use Rattle.tree_machine.specs.Refusals.{refused_or}
use Rattle.tree_machine.specs.Good.{IsGoodMachine, IsOpenable}

own_node : (n : Node) → node_weight n.ino n ≡ 1
own_node n = grind (arith, nat_tests)

own_handle : (h : Handle) → handle_weight h.ino h ≡ 1
own_handle h = grind (arith, nat_tests)

lt_true : (k : ℕ) → 0 < k → nat_lt 0 k ≡ true
lt_true k h = grind (arith, nat_tests)

pub node_is_named : (nodes : FinMap nat_cmp Node) (handles : FinMap nat_cmp Handle) (id : ℕ)
    (n : Node) → get nodes id ≡ Some n → is_named nodes handles n.ino ≡ true
node_is_named nodes handles id n at =
    let step = weigh-remove (node_weight n.ino) nodes id n at in
    let one = own_node n in
    lt_true (weigh (node_weight n.ino) (entries nodes) + weigh (handle_weight n.ino)
    (entries handles)) (omega arith)

pub handle_is_named : (nodes : FinMap nat_cmp Node) (handles : FinMap nat_cmp Handle) (id : ℕ)
    (h : Handle) → get handles id ≡ Some h → is_named nodes handles h.ino ≡ true
handle_is_named nodes handles id h at =
    let step = weigh-remove (handle_weight h.ino) handles id h at in
    let one = own_handle h in
    lt_true (weigh (node_weight h.ino) (entries nodes) + weigh (handle_weight h.ino)
    (entries handles)) (omega arith)

or_true : (a b : Bool) → b ≡ true → (a || b) ≡ true
or_true true b h = refl
or_true false b h = h

-- what is held stays stored
pub kept_at : (t : Tree) (held : ℕ → Bool) (i : ℕ) → held i ≡ true
    → get (keep held t).records i ≡ get t.records i
kept_at t held i h =
    retained t.records (λ q. is_linked t.records q || held q) i
    ∙ ap (λ b. cond b (get t.records i) None) (or_true (is_linked t.records i) (held i) h)

kept_body : (t : Tree) (held : ℕ → Bool) (i : ℕ) → held i ≡ true
    → body_at (keep held t).records i ≡ body_at t.records i
kept_body t held i h = ap (option_map (λ (r : Record). r.body)) (kept_at t held i h)

module _ (s : Settings) where
  -- records that nothing names may go
  pub kept_good : (m : MachineState) → IsGoodMachine s m → IsGoodMachine s (kept_state m)
  kept_good m g =
      let held = is_named m.nodes m.handles in
      record {
        tree = keep_good m.tree g.tree held;
        root = g.root;
        nodes = λ id n at. let old = g.nodes id n at in record {
          positive = old.positive;
          drawn = old.drawn;
          counted = old.counted;
          stored = subst IsSome (sym (kept_at m.tree held n.ino
              (node_is_named m.nodes m.handles id n at))) old.stored;
        };
        handles = λ id h at. let old = g.handles id h at in record {
          positive = old.positive;
          drawn = old.drawn;
          access = old.access;
          openable = subst (λ b. IsOpenable b h)
              (sym (kept_body m.tree held h.ino (handle_is_named m.nodes m.handles id h at)))
              old.openable;
        };
        apart = g.apart;
        once = g.once;
        next = g.next;
        within = g.within;
      }

  abbrev pub Gives : Reply × MachineState → Type 0
  Gives x = IsGoodMachine s (kept_state x.1)

  -- a refusal keeps a good state good
  pub refused_or_good : (m : MachineState) → IsGoodMachine s m
      → (o : Option ℕ) (x : Reply × MachineState) → (o ≡ None → Gives x) → Gives (refused_or m o x)
  refused_or_good m g (Some e) x given = kept_good m g
  refused_or_good m g None x given = given refl
