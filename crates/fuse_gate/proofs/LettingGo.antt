-- FORGET, RELEASE and FLUSH.
use Rattle.std.proofs.Common.{◌≡◌, ◌≢◌, ℕ, ◌+◌, ◌-◌, ◌<◌, ◌≤◌, ◌^◌, ◌⊎◌, Bool, true, false, cond}
use Rattle.std.proofs.Common.{refl, sym, ap, ◌∙◌, subst, min, Option, Some, None, arith, inl, inr}
use Rattle.std.proofs.Common.{⊎_elim, eq-eqb, nat_le}
use Rattle.std.specs.Prelude.{◌==◌}
use Rattle.std.proofs.lemmas.Bool.Decides.{nat_tests}
use Rattle.std.specs.FinMap.{FinMap, get, remove}
use Rattle.port_base.specs.declared.errno.TheConstants.{EBADF}
use Rattle.fuse_wire.specs.declared.protocol.TheConstants.{FUSE_ROOT_ID}
use Rattle.fuse_wire.specs.Request.{flush, release}
use Rattle.tree_machine.specs.State.{MachineState, Node as MachineNode, Handle as MachineHandle}
use Rattle.tree_machine.specs.State.{kept_state}
use Rattle.tree_machine.specs.Replies.{Reply}
use Rattle.tree_machine.specs.Replies.Reply.{Done}
use Rattle.tree_machine.specs.Refusals.{refused_unknown, refused_or}
use Rattle.tree_machine.specs.Forgetting.{forgotten, less_where}
use Rattle.tree_machine.specs.Messages.{gone}
use Rattle.tree_machine.specs.Faults.{IsEither}
use Rattle.tree_machine.specs.Good.{IsGoodMachine}
use Rattle.tree_machine.proofs.Forgetting.{forgotten_good, gone_one, same_many, with_count}
use Rattle.tree_machine.proofs.Forgetting.{without as machine_without}
use Rattle.tree_machine.proofs.Handles.{handle_gone}
use Rattle.fid_model.specs.Fids.{ServerState, IsGoodServer}
use Rattle.fid_model.specs.Calls.{clunked}
use Rattle.fid_model.specs.Moments.{Moment, AskedOne}
use Rattle.fuse_gate.specs.Standing.{IsInStep, ArePaired, machine_of, node_of, handle_of}
use Rattle.fuse_gate.specs.Steps.{LetsGo, ServesRequest, LeavesPartOf}
use Rattle.fuse_gate.specs.Changes.{one_sent, without, without_node, without_handle, counted_down}
use Rattle.fuse_gate.specs.declared.gate.Node.{Node}
use Rattle.fuse_gate.specs.declared.gate.Handle.{Handle}
use Rattle.fuse_gate.specs.declared.gate.Gate.{Gate}
use Rattle.fuse_gate.proofs.MappedLemmas.{mapped-insert, mapped-remove, mapped_at}
use Rattle.fuse_gate.proofs.Standings.{stands_kept, kept_same, node_seen, handle_seen}
use Rattle.fuse_gate.proofs.Serving.{none_sent, unchanged, served_after, let_go_served}
use Rattle.fuse_gate.proofs.Changing.{changed_paired}
use Rattle.fuse_gate.proofs.Going.{gone_state, gone_stands, node_less, handle_less}

-- between two gates that differ in their counts
paired_sent : (g : Gate) (s : ServerState) (k : ℕ) → ArePaired g s
    → ArePaired (record g { nine_frames = k }) s
paired_sent g s k p = record {
  fids = p.fids;
  used = p.used;
  counted = p.counted;
  ids =
      p.ids;
  known = p.known;
  node_kinds = p.node_kinds;
  handle_kinds = p.handle_kinds;
}

cond_same : (b : Bool) (m : MachineState) → cond b m m ≡ m
cond_same true m = refl
cond_same false m = refl

not_equal : (a b : ℕ) → a ≢ b → (a == b) ≡ false
not_equal a b ne = grind (arith, nat_tests)

at_most : (a b : ℕ) → a ≤ b → nat_le a b ≡ true
at_most a b h = grind (arith, nat_tests)

above : (a b : ℕ) → b < a → nat_le a b ≡ false
above a b h = grind (arith, nat_tests)

-- ---- a fid goes: what the gate is then, with its count

module _ {g : Gate} (n : Moment) (st : IsInStep g n.state) (id : ℕ) (less : Gate)
    (told : MachineState)
    (paired : ArePaired less (without n.state id)) (state : machine_of less n.state ≡ told)
    (fine : IsGoodMachine n.state.settings told) where
  abbrev counted : ℕ → Gate
  counted k = record less { nine_frames = k }

  good_less : (k : ℕ) → IsGoodMachine n.state.settings (machine_of (counted k) n.state)
  good_less k = subst (IsGoodMachine n.state.settings) (sym state) fine

  left_is : (k : ℕ) → machine_of (counted k) (clunked n.state id) ≡ kept_state told
  left_is k = gone_state (counted k) n.state id (paired_sent less (without n.state id) k paired)
      (good_less k) st.roomy ∙ ap kept_state state

  -- one message let it go
  pub fid_gone : (count : ℕ) → count ≡ 1 → (g1 : Gate) (n1 : Moment)
      → g1 ≡ counted (one_sent g).nine_frames → AskedOne n n1 → n1.state ≡ clunked n.state id
      → LetsGo told count (g, n) (g1, n1)
  fid_gone count one g1 n1 is asked left =
      let k : ℕ = (one_sent g).nine_frames in
      let frames : g1.nine_frames ≡ min (g.nine_frames + 1) (2 ^ 64 - 1) =
      ap (λ (x : Gate). x.nine_frames) is in
      record {
        stands = subst (λ (x : Gate). IsInStep x n1.state) (sym is)
            (subst (IsInStep (counted k)) (sym left)
            (gone_stands (counted k) n.state id (paired_sent less (without n.state id) k paired)
            (good_less k) st.roomy));
        state = ap (λ (x : Gate). machine_of x n1.state) is ∙ ap (machine_of (counted k)) left
            ∙ left_is k;
        messages = record {
          frames = omega (arith, one, frames);
          asked =
              omega (arith, one, asked);
        };
      }

  -- no memory in the message
  pub fid_part : (n1 : Moment) → (n1.state ≡ n.state) ⊎ (n1.state ≡ clunked n.state id)
      → IsEither n.state.tree (kept_state told).tree n1.state.tree
  fid_part n1 part = ⊎_elim
      (λ e. inl (ap (λ (x : ServerState). x.tree) e))
      (λ e. inr (ap (λ (x : ServerState). x.tree) e
      ∙ ap (λ (x : MachineState). x.tree) (left_is 0))) part

module _ {g : Gate} (n : Moment) (st : IsInStep g n.state) (good : IsGoodServer n.state) where
  abbrev m : MachineState
  m = machine_of g n.state

  -- ---- nodes

  module _ (id number : ℕ) where
    abbrev Forgets : Gate → Moment → Type 0
    Forgets g1 n1 = LetsGo (forgotten m id number) (gone m (forgotten m id number)) (g, n) (g1, n1)

    -- nothing goes
    same_left : forgotten m id number ≡ m → Forgets g n
    same_left is =
        let none : gone m (forgotten m id number) ≡ 0 = ap (gone m) is ∙ omega arith in
        record {
          stands = st;
          state = sym (ap kept_state is ∙ stands_kept st good);
          messages =
              record { frames = omega (arith, none); asked = omega (arith, none) };
        }

    pub root_left : id ≡ FUSE_ROOT_ID → Forgets g n
    root_left is = same_left (ap (λ b. cond b m (less_where m id number (get m.nodes id)))
        (eq-eqb id FUSE_ROOT_ID is))

    pub unknown_left : get g.nodes id ≡ None → Forgets g n
    unknown_left at = same_left (ap (λ o. cond (id == FUSE_ROOT_ID) m (less_where m id number o))
        (node_seen st id None at) ∙ cond_same (id == FUSE_ROOT_ID) m)

    module _ (k : Node) (at : get g.nodes id ≡ Some k) (other : id ≢ FUSE_ROOT_ID) where
      less_is : (b : Bool) → nat_le k.count number ≡ b
          → forgotten m id number ≡ cond b (machine_without m id)
          (with_count m id number (node_of k))
      less_is b is =
          ap (λ b. cond b m (less_where m id number (get m.nodes id)))
          (not_equal id FUSE_ROOT_ID other)
          ∙ ap (less_where m id number) (node_seen st id (Some k) at)
          ∙ ap (λ b. cond b (machine_without m id) (with_count m id number (node_of k))) is

      here : get m.nodes id ≡ Some (node_of k)
      here = mapped_at node_of g.nodes id k at

      forgotten_fine : IsGoodMachine n.state.settings (forgotten m id number)
      forgotten_fine = forgotten_good n.state.settings m st.good id number

      -- the node counts less
      pub less_left : (g1 : Gate) → g1 ≡ counted_down g id k number → number < k.count
          → Forgets g1 n
      less_left g1 is more =
          let told = less_is false (above k.count number more) in
          let v : Node = record k { count = k.count - number } in
          let paired = changed_paired g n.state st id k v at refl refl in
          let state : machine_of (counted_down g id k number) n.state ≡ forgotten m id number =
          ap (λ (x : FinMap _ MachineNode). let y : MachineState = record m { nodes = x } in y)
          (mapped-insert node_of g.nodes id v) ∙ sym told in
          let now = subst (IsGoodMachine n.state.settings) (sym state) forgotten_fine in
          let none : gone m (forgotten m id number) ≡ 0 = ap (gone m) told
          ∙ (let same = same_many m id number (node_of k) (node_of v) here in omega
          (arith, same)) in
          subst (λ (x : Gate). Forgets x n) (sym is) (record {
            stands = record { good = now; paired = paired; roomy = st.roomy };
            state = state ∙ sym (ap kept_state (sym state)
                ∙ kept_same (counted_down g id k number) n.state paired now.apart good ∙ state);
            messages = record { frames = omega (arith, none); asked = omega (arith, none) };
          })

      module _ (few : k.count ≤ number) where
        gone_told : forgotten m id number ≡ machine_without m id
        gone_told = less_is true (at_most k.count number few)

        without_is : machine_of (without_node g id k.ino) n.state ≡ forgotten m id number
        without_is = ap (λ (x : FinMap _ MachineNode). let y : MachineState =
            record m { nodes = x } in y) (mapped-remove node_of g.nodes id) ∙ sym gone_told

        -- the node goes
        pub node_left : (g1 : Gate) (n1 : Moment) → g1 ≡ without_node (one_sent g) id k.ino
            → AskedOne n n1 → n1.state ≡ clunked n.state id → Forgets g1 n1
        node_left g1 n1 is asked left =
            fid_gone n st id (without_node g id k.ino) (forgotten m id number)
            (node_less st id k at) without_is forgotten_fine
            (gone m (forgotten m id number)) (ap (gone m) gone_told
            ∙ gone_one m id (node_of k) here) g1 n1 is asked left

        pub node_part : (n1 : Moment) → (n1.state ≡ n.state) ⊎ (n1.state ≡ clunked n.state id)
            → IsEither n.state.tree (kept_state (forgotten m id number)).tree n1.state.tree
        node_part n1 part = fid_part n st id (without_node g id k.ino) (forgotten m id number)
            (node_less st id k at) without_is forgotten_fine n1 part

  -- ---- handles

  module _ (id : ℕ) where
    pub handle_refused : get g.handles id ≡ None
        → refused_unknown (get m.handles id) EBADF ≡ Some EBADF
    handle_refused at = ap (λ (o : Option MachineHandle). refused_unknown o EBADF)
        (handle_seen st id None at)

    module _ (h : Handle) (at : get g.handles id ≡ Some h) where
      none_refused : refused_unknown (get m.handles id) EBADF ≡ None
      none_refused = ap (λ (o : Option MachineHandle). refused_unknown o EBADF)
          (handle_seen st id (Some h) at)

      pub flush_known : ServesRequest 0 (flush id) (g, n) (g, n) Done
      flush_known = served_after st good 0 (flush id) none_refused (g, n) Done
          (unchanged st (Done, m) 0 (λ t. t ≡ n.state.tree) good g n Done (none_sent g n) refl refl
          refl)

      abbrev without_it : MachineState
      without_it = record m { handles = remove m.handles id }

      left_state : machine_of (without_handle g id) n.state ≡ without_it
      left_state = ap (λ (x : FinMap _ MachineHandle). let y : MachineState =
          record m { handles = x } in y) (mapped-remove handle_of g.handles id)

      pub release_known : (g1 : Gate) (n1 : Moment) → g1 ≡ without_handle (one_sent g) id
          → AskedOne n n1 → n1.state ≡ clunked n.state id
          → ServesRequest 0 (release id) (g, n) (g1, n1) Done
      release_known g1 n1 is asked left =
          served_after st good 0 (release id) none_refused (g1, n1) Done
          (let_go_served (Done, without_it) 1 (λ t. t ≡ n.state.tree) (g, n) (g1, n1) Done refl
          (fid_gone n st id (without_handle g id) without_it (handle_less st id h at) left_state
          (handle_gone n.state.settings m st.good id) 1 refl g1 n1 is asked left))

      pub release_part : (n1 : Moment) → (n1.state ≡ n.state) ⊎ (n1.state ≡ clunked n.state id)
          → LeavesPartOf 0 (release id) (g, n) n1
      release_part n1 part =
          let told : MachineState → Reply × MachineState = λ x. (Done, x) in
          inl (subst (λ (o : Option ℕ). IsEither n.state.tree
          (kept_state (refused_or m o (told without_it)).1).tree n1.state.tree)
          (sym none_refused)
          (fid_part n st id (without_handle g id) without_it (handle_less st id h at) left_state
          (handle_gone n.state.settings m st.good id) n1 part))
