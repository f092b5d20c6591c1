-- LINK: a name is given, and then the old node is entered once more.
use Rattle.std.proofs.Common.{◌≡◌, ℕ, ◌+◌, ◌≤◌, Bool, false, List, refl}
use Rattle.std.proofs.Common.{sym, ap, ◌∙◌, subst, Option, Some, None, Result, Ok, Err, IsSome}
use Rattle.std.proofs.Common.{inl, inr, ⊎_elim, arith}
use Rattle.std.specs.FinMap.{get}
use Rattle.port_base.specs.Faults.{Rose}
use Rattle.port_base.specs.Names.{name_fault}
use Rattle.port_base.specs.declared.errno.TheConstants.{EIO, ESTALE}
use Rattle.tree_model.specs.Tree.{Tree, keep}
use Rattle.tree_model.specs.Creating.{link_of}
use Rattle.tree_model.specs.Good.{IsGoodTree}
use Rattle.tree_model.specs.Sound.{IsKept}
use Rattle.fuse_wire.specs.Request.{link}
use Rattle.tree_machine.specs.State.{MachineState, Node as MachineNode, kept_state, is_named}
use Rattle.tree_machine.specs.State.{is_at_limit}
use Rattle.tree_machine.specs.Replies.{Reply}
use Rattle.tree_machine.specs.Replies.Reply.{Refused}
use Rattle.tree_machine.specs.Refusals.{refused_or}
use Rattle.tree_machine.specs.Core.{node_ino, node_for, node_of as node_found, looked_up}
use Rattle.tree_machine.specs.Core.{lookup_refusal}
use Rattle.tree_machine.specs.Naming.{link_refusal, linked}
use Rattle.tree_machine.specs.Requests.{effect_of}
use Rattle.tree_machine.specs.Messages.{effect_messages, linked_messages}
use Rattle.tree_machine.specs.Faults.{PartOf}
use Rattle.tree_machine.specs.Kinds.{KeepsKinds}
use Rattle.tree_machine.proofs.KindsKept.{Leaves, leaves_kinds}
use Rattle.tree_machine.proofs.LinkedNames.{link_leaves, link_stays}
use Rattle.tree_machine.proofs.MadeNames.{changed_tree_good, given_named}
use Rattle.fid_model.specs.Fids.{ServerState, Fid, IsGoodServer}
use Rattle.fid_model.specs.Directories.{link_told}
use Rattle.fid_model.specs.TreeCalls.{at_fid, unless_fault, unless_some}
use Rattle.fid_model.specs.Moments.{Moment, AskedOne, Asks}
use Rattle.fid_model.proofs.Keeping.{keep_same}
use Rattle.p9_client.specs.Changing.{changed, OldOrTold}
use Rattle.fuse_gate.specs.Standing.{IsInStep, machine_of, piece_of}
use Rattle.fuse_gate.specs.Steps.{Serves, ServesRequest}
use Rattle.fuse_gate.specs.Changes.{one_sent}
use Rattle.fuse_gate.specs.Linking.{MayEnterAgain, ServesAgain}
use Rattle.fuse_gate.specs.declared.gate.Node.{Node}
use Rattle.fuse_gate.specs.declared.gate.Gate.{Gate}
use Rattle.fuse_gate.proofs.Standings.{node_fid, node_seen, node_good, sent_stands}
use Rattle.fuse_gate.proofs.Changing.{tree_paired}
use Rattle.fuse_gate.proofs.LookingUp.{refusal_by}
use Rattle.fuse_gate.proofs.MakingDirectories.{kept_more, node_tree}
use Rattle.fuse_gate.proofs.Serving.{SentAlone, one_alone, hurt, unchanged, served_in_part}
use Rattle.fuse_gate.proofs.TreeChanging.{held_same}

module _ {g : Gate} (n : Moment) (st : IsInStep g n.state) (node old : ℕ) (name : List ℕ) where
  abbrev before : Option ℕ
  before = link_refusal n.state.settings (machine_of g n.state) name
      (get (machine_of g n.state).nodes old) (get (machine_of g n.state).nodes node)

  pub link_unknown : get g.nodes old ≡ None → before ≡ Some ESTALE
  link_unknown at = ap (λ (o : Option MachineNode). link_refusal n.state.settings
      (machine_of g n.state) name o (get (machine_of g n.state).nodes node))
      (node_seen st old None at)

  -- of an old node that is there, what LOOKUP refuses
  pub link_refuses : (l : Node) → get g.nodes old ≡ Some l → (r : Option ℕ)
      → lookup_refusal n.state.settings (machine_of g n.state) name
      (get (machine_of g n.state).nodes node) ≡ r → before ≡ r
  link_refuses l there r is = ap (λ (o : Option MachineNode). link_refusal n.state.settings
      (machine_of g n.state) name o (get (machine_of g n.state).nodes node))
      (node_seen st old (Some l) there) ∙ is

module _ {g : Gate} (n : Moment) (st : IsInStep g n.state) (good : IsGoodServer n.state)
    (node old : ℕ) (name : List ℕ) (l : Node) (there : get g.nodes old ≡ Some l)
    (k : Node) (at : get g.nodes node ≡ Some k)
    (fine : None ≡ name_fault name)
    (room : false ≡ is_at_limit n.state.settings (machine_of g n.state)) where
  abbrev m : MachineState
  m = machine_of g n.state

  abbrev held : ℕ → Bool
  held = is_named m.nodes m.handles

  abbrev told : Result (Unit {0} × Tree) ℕ
  told = link_of n.state.tree l.ino k.ino name

  none : link_refusal n.state.settings m name (get m.nodes old) (get m.nodes node) ≡ None
  none = link_refuses n st node old name l there None
      (refusal_by n st good node name k at None false fine room)

  pub link_tells : link_told n.state node old name ≡ told
  link_tells =
      ap (λ (o : Option Fid). at_fid o (λ ino. at_fid (get n.state.fids node)
      (λ dir. unless_fault name (link_of n.state.tree ino dir name))))
      (node_fid st old l there)
      ∙ ap (λ (o : Option Fid). at_fid o (λ dir. unless_fault name
      (link_of n.state.tree l.ino dir name))) (node_fid st node k at)
      ∙ ap (λ (o : Option ℕ). unless_some o (link_of n.state.tree l.ino k.ino name)) (sym fine)

  effect_is : effect_of n.state.settings m node (link old name)
      ≡ linked n.state.settings m l.ino told
  effect_is =
      ap (λ (o : Option MachineNode). linked n.state.settings m (node_ino o)
      (link_of n.state.tree (node_ino o) (node_ino (get m.nodes node)) name))
      (node_seen st old (Some l) there)
      ∙ ap (λ (o : Option MachineNode). linked n.state.settings m l.ino
      (link_of n.state.tree l.ino (node_ino o) name)) (node_seen st node (Some k) at)

  messages_are : effect_messages (piece_of n.state) n.state.settings m node (link old name)
      ≡ linked_messages told
  messages_are =
      ap (λ (o : Option MachineNode). linked_messages
      (link_of n.state.tree (node_ino o) (node_ino (get m.nodes node)) name))
      (node_seen st old (Some l) there)
      ∙ ap (λ (o : Option MachineNode). linked_messages
      (link_of n.state.tree l.ino (node_ino o) name)) (node_seen st node (Some k) at)

  abbrev part : Tree → Type 0
  part t = PartOf n.state.settings m node (Ok (link old name)) t

  told_part : (t : Tree) → t ≡ (kept_state (linked n.state.settings m l.ino told).1).tree → part t
  told_part t is = inl (inr (is
      ∙ ap (λ (x : Reply × MachineState). (kept_state x.1).tree) (sym effect_is)
      ∙ ap (λ (o : Option ℕ). (kept_state
      (refused_or m o (effect_of n.state.settings m node (link old name))).1).tree) (sym none)))

  pub link_served : (new : Gate × Moment) (reply : Reply)
      → Serves (linked n.state.settings m l.ino told) (linked_messages told) part (g, n) new reply
      → ServesRequest node (link old name) (g, n) new reply
  link_served new reply served = served_in_part st good node (link old name) none new reply
      (subst (λ (c : ℕ). Serves (effect_of n.state.settings m node (link old name)) c part (g, n)
      new reply) (sym messages_are)
      (subst (λ (x : Reply × MachineState). Serves x (linked_messages told) part (g, n) new reply)
      (sym effect_is) served))

  -- ---- the name was given

  stored : IsSome (get n.state.tree.records l.ino)
  stored = (node_good st old l there).stored

  module _ (u : Tree) (is : told ≡ Ok (tt, u)) where
    all : IsGoodTree u × Leaves held n.state.tree u × IsSome (get u.records l.ino)
    all = link_leaves n.state.tree good.tree held name (sym fine) l.ino k.ino u is stored

    kept_now : IsKept u.records held
    kept_now = link_stays n.state.tree good.tree held name (sym fine) l.ino k.ino u is
        (subst (λ (h : ℕ → Bool). IsKept n.state.tree.records h) (sym (held_same n st)) good.kept)

    abbrev m1 : MachineState
    m1 = record m { tree = u }

    abbrev s1 : ServerState
    s1 = record n.state { tree = u }

    stand_is : (changed n.state (λ (x : Unit {0}). x) (Ok (tt, u))).1 ≡ s1
    stand_is = ap (λ (t : Tree). let x : ServerState = record n.state { tree = t } in x)
        (ap (λ (h : ℕ → Bool). keep h u) (sym (held_same n st)) ∙ keep_same u held kept_now)

    stands_now : IsInStep g s1
    stands_now = record {
      good = changed_tree_good n.state.settings m st.good u all.0 all.1;
      paired = tree_paired g n.state u st
          (subst (λ (t : Tree). KeepsKinds n.state.tree t) (keep_same u held kept_now)
          (leaves_kinds held n.state.tree u all.1));
      roomy = st.roomy;
    }

    -- it is left, whatever is named besides
    tree_is : (kept_state (looked_up n.state.settings m1 (Ok l.ino)).1).tree ≡ u
    tree_is =
        let o = node_found m l.ino in
        let x = (node_for m1 l.ino o).1 in
        ap (λ (t : Tree). keep (is_named x.nodes x.handles) t) (node_tree m1 l.ino o)
        ∙ kept_more u held (is_named x.nodes x.handles)
        (λ i. given_named n.state.settings m1
        (changed_tree_good n.state.settings m st.good u all.0 all.1) l.ino i o refl) kept_now

    linked_part : (t : Tree) → t ≡ u → part t
    linked_part t same = told_part t (same ∙ sym tree_is
        ∙ ap (λ (c : Result (Unit {0} × Tree) ℕ).
        (kept_state (linked n.state.settings m l.ino c).1).tree) (sym is))

    module _ (g1 : Gate) (n1 : Moment) (sent : g1 ≡ one_sent g) (asked : AskedOne n n1)
        (rises : n.faults ≤ n1.faults) (state : n1.state ≡ s1) where
      alone : SentAlone 1 g n g1 n1
      alone = one_alone g1 n1 sent asked

      stands_at : IsInStep g1 n1.state
      stands_at = subst (IsInStep g1) (sym state)
          (subst (λ (x : Gate). IsInStep x s1) (sym alone.gate)
          (sent_stands stands_now g1.nine_frames))

      same : machine_of g1 n1.state ≡ m1
      same = ap (machine_of g1) state ∙ ap (λ (x : Gate). machine_of x s1) alone.gate

      settings : n1.state.settings ≡ n.state.settings
      settings = ap (λ (x : ServerState). x.settings) state

      -- the old node may be entered once more
      pub may_enter : MayEnterAgain g1 n1.state old
      may_enter = record {
        stands = stands_at;
        known = subst (λ (x : Gate). IsSome (get x.nodes old)) (sym alone.gate)
            (subst IsSome (sym there) refl);
        room = (λ j. is_at_limit (settings j) (same j)) ∙ sym room;
      }

      answer_is : looked_up n1.state.settings (machine_of g1 n1.state)
          (Ok (node_ino (get (machine_of g1 n1.state).nodes old)))
          ≡ linked n.state.settings m l.ino told
      answer_is = (λ j. looked_up (settings j) (same j) (Ok (node_ino (get (same j).nodes old))))
          ∙ ap (λ (o : Option MachineNode). looked_up n.state.settings m1 (Ok (node_ino o)))
          (node_seen st old (Some l) there)
          ∙ ap (linked n.state.settings m l.ino) (sym is)

      -- nothing but the name was given
      pub again_part : (t : Tree) → t ≡ n1.state.tree → part t
      again_part t same = linked_part t (same ∙ ap (λ (x : ServerState). x.tree) state)

      pub again_served : (new : Gate × Moment) (reply : Reply)
          → ServesAgain old (g1, n1) new reply
          → Serves (linked n.state.settings m l.ino told) (linked_messages told) part (g, n) new
          reply
      again_served new reply served =
          let first = alone.messages.frames in
          let handed = alone.messages.asked in
          let more = served.messages.frames in
          let then = served.messages.asked in
          record {
            stands = served.stands;
            sent = 1 + served.sent;
            messages = record {
              frames = omega (arith, first, more);
              asked = omega (arith, handed, then);
            };
            outcome = ⊎_elim
                (λ e. inl (
                  e.0 ∙ ap (λ (x : Reply × MachineState). x.0) answer_is,
                  e.1 ∙ ap (λ (x : Reply × MachineState). kept_state x.1) answer_is,
                  ap (λ c. 1 + c) e.2 ∙ ap linked_messages (sym is),
                ))
                (λ f. let rose = f.0 in inr (
                  omega (arith, rises, rose),
                  f.1,
                  f.2 ∙ ap (λ (x : MachineState). let y : MachineState =
                      record x { tree = new.1.state.tree } in y) same,
                  again_part new.1.state.tree f.3,
                ))
                served.outcome;
          }

      -- a fault was met after it was given
      hurt_after : Rose n.faults n1.faults
          → Serves (linked n.state.settings m l.ino told) (linked_messages told) part (g, n) (g1, n1)
          (Refused EIO)
      hurt_after rose = record {
        stands = stands_at;
        sent = 1;
        messages = alone.messages;
        outcome = inr (
          rose,
          refl,
          ap (λ (x : Gate). machine_of x n1.state) alone.gate,
          linked_part n1.state.tree (ap (λ (x : ServerState). x.tree) state),
        );
      }

  -- ---- the message was answered

  abbrev stand : Result (Unit {0} × Tree) ℕ → Tree
  stand c = (changed n.state (λ u. u) c).1.tree

  left_part : (c : Result (Unit {0} × Tree) ℕ) → told ≡ c → (t : Tree) → t ≡ stand c → part t
  left_part (Ok (tt, u)) is t same =
      linked_part u is t (same ∙ ap (λ (x : ServerState). x.tree) (stand_is u is))
  left_part (Err e) is t same = inl (inl same)

  module _ (server : Result (Unit {0} × Tree) ℕ) (tells : server ≡ told) where
    -- what is left of the tree where the message wasn't answered
    pub link_part : (t : Tree) → OldOrTold (changed n.state (λ u. u) server) n.state.tree t → part t
    link_part t left = ⊎_elim (λ same. inl (inl same))
        (λ is. left_part told refl t (is ∙ ap stand tells)) left

    module _ (g1 : Gate) (n1 : Moment) (sent : g1 ≡ one_sent g) (asked : AskedOne n n1)
        (rises : n.faults ≤ n1.faults) where
      -- it was given
      pub link_done : (x answer : Result (Unit {0}) ℕ) (q : Unit {0}) → x ≡ answer → answer ≡ Ok q
          → Asks (changed n.state (λ u. u) server) (OldOrTold (changed n.state (λ u. u) server)) x
          n.state n1.state n.faults n1.faults
          → (u : Tree) × (told ≡ Ok (tt, u)) × (n1.state ≡ record n.state { tree = u })
      link_done x answer q is made (inl e) = by_told told refl
          (sym (λ j. let y : Result (Unit {0}) ℕ × ServerState = (is j, n1.state) in y) ∙ e
          ∙ ap (changed n.state (λ u. u)) tells)
        where
          by_told : (c : Result (Unit {0} × Tree) ℕ) → told ≡ c
              → ◌≡◌ {A = Result (Unit {0}) ℕ × ServerState} (answer, n1.state) (changed n.state (λ u. u) c)
              → (u : Tree) × (told ≡ Ok (tt, u))
              × (n1.state ≡ record n.state { tree = u })
          by_told (Ok (tt, u)) same e = (
            u,
            same,
            ap (λ (y : Result (Unit {0}) ℕ × ServerState). y.1) e ∙ stand_is u same,
          )
          by_told (Err d) same e = absurd (let clash : Ok q ≡ Err d =
              sym made ∙ ap (λ (y : Result (Unit {0}) ℕ × ServerState). y.0) e in cc)
      link_done x answer q is made (inr (rose, eio, only, left)) =
          absurd (let clash : Ok q ≡ Err EIO = sym made ∙ sym is ∙ eio in cc)

      -- it was refused, or a fault was met
      pub link_refused : (x : Result (Unit {0}) ℕ) (d : ℕ) → x ≡ Err d
          → Asks (changed n.state (λ u. u) server) (OldOrTold (changed n.state (λ u. u) server)) x
          n.state n1.state n.faults n1.faults
          → ServesRequest node (link old name) (g, n) (g1, n1) (Refused d)
      link_refused x d is (inl e) = link_served (g1, n1) (Refused d)
          (by_told told refl
          (sym (λ j. let y : Result (Unit {0}) ℕ × ServerState = (is j, n1.state) in y) ∙ e
          ∙ ap (changed n.state (λ u. u)) tells))
        where
          by_told : (c : Result (Unit {0} × Tree) ℕ) → told ≡ c
              → ◌≡◌ {A = Result (Unit {0}) ℕ × ServerState} (Err d, n1.state) (changed n.state (λ u. u) c)
              → Serves (linked n.state.settings m l.ino told) (linked_messages told) part (g, n) (g1, n1)
              (Refused d)
          by_told (Ok (tt, u)) same e = absurd (let clash : Err d ≡ Ok tt =
              ap (λ (y : Result (Unit {0}) ℕ × ServerState). y.0) e in cc)
          by_told (Err b) same e =
              let equal : d ≡ b = (let both : ◌≡◌ {A = Result (Unit {0}) ℕ} (Err d) (Err b) =
              ap (λ (y : Result (Unit {0}) ℕ × ServerState). y.0) e in cc) in
              subst (λ (c : Result (Unit {0} × Tree) ℕ). Serves (linked n.state.settings m l.ino c)
              (linked_messages c) part (g, n) (g1, n1) (Refused d)) (sym same)
              (unchanged st (linked n.state.settings m l.ino (Err b)) 1 part good g1 n1 (Refused d)
              (one_alone g1 n1 sent asked)
              (ap (λ (y : Result (Unit {0}) ℕ × ServerState). y.1) e) (ap Refused equal) refl)
      link_refused x d is (inr (rose, eio, only, left)) =
          let equal : d ≡ EIO = (let both : ◌≡◌ {A = Result (Unit {0}) ℕ} (Err d) (Err EIO) =
          sym is ∙ eio in cc) in
          subst (λ (e : ℕ). ServesRequest node (link old name) (g, n) (g1, n1) (Refused e))
          (sym equal)
          (link_served (g1, n1) (Refused EIO) (⊎_elim
          (λ same. hurt st (linked n.state.settings m l.ino told) (linked_messages told) part 1 g1 n1
          (one_alone g1 n1 sent asked)
          (only ∙ ap (λ (t : Tree). let y : ServerState = record n.state { tree = t } in y) same)
          rose (inl (inl refl)))
          (λ same. by_told told refl (same ∙ ap stand tells)) left))
        where
          by_told : (c : Result (Unit {0} × Tree) ℕ) → told ≡ c → n1.state.tree ≡ stand c
              → Serves (linked n.state.settings m l.ino told) (linked_messages told) part (g, n) (g1, n1)
              (Refused EIO)
          by_told (Ok (tt, u)) now same = hurt_after u now g1 n1 sent asked rises
              (only ∙ ap (λ (t : Tree). let y : ServerState = record n.state { tree = t } in y)
              (same ∙ ap (λ (y : ServerState). y.tree) (stand_is u now))) rose
          by_told (Err b) now same = hurt st (linked n.state.settings m l.ino told) (linked_messages told)
              part 1 g1 n1 (one_alone g1 n1 sent asked)
              (only ∙ ap (λ (t : Tree). let y : ServerState = record n.state { tree = t } in y)
              same) rose (inl (inl refl))
