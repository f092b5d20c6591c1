-- MKDIR: a directory is made, and then looked up.
use Rattle.std.proofs.Common.{◌≡◌, ℕ, ◌+◌, ◌≤◌, Bool, true, false, ◌||◌, List, refl}
use Rattle.std.proofs.Common.{sym, ap, ◌∙◌, subst, Option, Some, None, Result, Ok, Err, IsSome}
use Rattle.std.proofs.Common.{inl, inr, ⊎_elim, arith}
use Rattle.std.specs.FinMap.{get}
use Rattle.port_base.specs.Faults.{Rose}
use Rattle.port_base.specs.Names.{name_fault}
use Rattle.port_base.specs.declared.errno.TheConstants.{EIO}
use Rattle.tree_model.specs.declared.attributes.Attr.{Attr}
use Rattle.tree_model.specs.Tree.{Tree, is_linked, keep}
use Rattle.tree_model.specs.Attributes.{Qid, qid_of}
use Rattle.tree_model.specs.Creating.{mkdir_of}
use Rattle.tree_model.specs.Finding.{find}
use Rattle.tree_model.specs.Good.{IsGoodTree}
use Rattle.tree_model.specs.Sound.{IsKept}
use Rattle.fuse_wire.specs.Request.{mkdir, lookup}
use Rattle.tree_machine.specs.State.{MachineState, Node as MachineNode, kept_state, is_named}
use Rattle.tree_machine.specs.State.{is_at_limit}
use Rattle.tree_machine.specs.Replies.{Reply}
use Rattle.tree_machine.specs.Replies.Reply.{Refused}
use Rattle.tree_machine.specs.Refusals.{refused_or, none_or}
use Rattle.tree_machine.specs.Core.{node_ino, node_for, node_of as node_found, looked_up}
use Rattle.tree_machine.specs.Core.{lookup_refusal}
use Rattle.tree_machine.specs.Naming.{made}
use Rattle.tree_machine.specs.Requests.{effect_of, answer_of}
use Rattle.tree_machine.specs.Messages.{effect_messages, request_messages, found_messages}
use Rattle.tree_machine.specs.Messages.{made_messages}
use Rattle.tree_machine.specs.Faults.{PartOf}
use Rattle.tree_machine.specs.Kinds.{KeepsKinds}
use Rattle.tree_machine.proofs.KindsKept.{Leaves, leaves_kinds}
use Rattle.tree_machine.proofs.MadeNames.{mkdir_leaves, mkdir_found, mkdir_stays}
use Rattle.tree_machine.proofs.MadeNames.{changed_tree_good, given_named}
use Rattle.fid_model.specs.Fids.{ServerState, Fid, IsGoodServer}
use Rattle.fid_model.specs.Directories.{mkdir_told}
use Rattle.fid_model.specs.TreeCalls.{at_fid, unless_fault, unless_some}
use Rattle.fid_model.specs.Moments.{Moment, AskedOne, Asks}
use Rattle.fid_model.proofs.Keeping.{keep_same}
use Rattle.p9_client.specs.Changing.{changed, OldOrTold}
use Rattle.fuse_gate.specs.Standing.{IsInStep, machine_of, piece_of}
use Rattle.fuse_gate.specs.Steps.{Serves, ServesRequest}
use Rattle.fuse_gate.specs.Changes.{one_sent}
use Rattle.fuse_gate.specs.declared.gate.Node.{Node}
use Rattle.fuse_gate.specs.declared.gate.Gate.{Gate}
use Rattle.fuse_gate.proofs.Standings.{node_fid, node_seen, sent_stands}
use Rattle.fuse_gate.proofs.Changing.{tree_paired}
use Rattle.fuse_gate.proofs.LookingUp.{refusal_by}
use Rattle.fuse_gate.proofs.Serving.{SentAlone, one_alone, hurt, unchanged, served_in_part}
use Rattle.fuse_gate.proofs.TreeChanging.{held_same}

-- nothing goes, whatever more is held
pub kept_more : (u : Tree) (held other : ℕ → Bool) → ((i : ℕ) → held i ≡ true → other i ≡ true)
    → IsKept u.records held → keep other u ≡ u
kept_more u held other more kept = keep_same u other
    (λ i some. either (is_linked u.records i) (held i) (other i) (more i) (kept i some))
  where
    either : (b c d : Bool) → (c ≡ true → d ≡ true) → (b || c) ≡ true → (b || d) ≡ true
    either true c d m h = refl
    either false c d m h = m h

pub node_tree : (m : MachineState) (ino : ℕ) (o : Option (ℕ × MachineNode))
    → (node_for m ino o).1.tree ≡ m.tree
node_tree m ino (Some known) = refl
node_tree m ino None = refl

module _ {g : Gate} (n : Moment) (st : IsInStep g n.state) (good : IsGoodServer n.state)
    (node mode : ℕ) (name : List ℕ) (k : Node) (at : get g.nodes node ≡ Some k)
    (fine : None ≡ name_fault name)
    (room : false ≡ is_at_limit n.state.settings (machine_of g n.state)) where
  abbrev m : MachineState
  m = machine_of g n.state

  abbrev held : ℕ → Bool
  held = is_named m.nodes m.handles

  abbrev told : Result (Attr × Tree) ℕ
  told = mkdir_of n.state.tree k.ino name mode

  none : lookup_refusal n.state.settings m name (get m.nodes node) ≡ None
  none = refusal_by n st good node name k at None false fine room

  pub mkdir_tells : mkdir_told n.state node name mode ≡ told
  mkdir_tells =
      ap (λ (o : Option Fid). at_fid o (λ dir. unless_fault name
      (mkdir_of n.state.tree dir name mode))) (node_fid st node k at)
      ∙ ap (λ (o : Option ℕ). unless_some o (mkdir_of n.state.tree k.ino name mode)) (sym fine)

  effect_is : effect_of n.state.settings m node (mkdir mode name) ≡ made n.state.settings m told
  effect_is = ap (λ (o : Option MachineNode). made n.state.settings m
      (mkdir_of n.state.tree (node_ino o) name mode)) (node_seen st node (Some k) at)

  messages_are : effect_messages (piece_of n.state) n.state.settings m node (mkdir mode name)
      ≡ made_messages m told
  messages_are = ap (λ (o : Option MachineNode). made_messages m
      (mkdir_of n.state.tree (node_ino o) name mode)) (node_seen st node (Some k) at)

  abbrev part : Tree → Type 0
  part t = PartOf n.state.settings m node (Ok (mkdir mode name)) t

  told_part : (t : Tree) → t ≡ (kept_state (made n.state.settings m told).1).tree → part t
  told_part t is = inl (inr (is
      ∙ ap (λ (x : Reply × MachineState). (kept_state x.1).tree) (sym effect_is)
      ∙ ap (λ (o : Option ℕ). (kept_state
      (refused_or m o (effect_of n.state.settings m node (mkdir mode name))).1).tree) (sym none)))

  pub mkdir_served : (new : Gate × Moment) (reply : Reply)
      → Serves (made n.state.settings m told) (made_messages m told) part (g, n) new reply
      → ServesRequest node (mkdir mode name) (g, n) new reply
  mkdir_served new reply served = served_in_part st good node (mkdir mode name) none new reply
      (subst (λ (c : ℕ). Serves (effect_of n.state.settings m node (mkdir mode name)) c part (g, n)
      new reply) (sym messages_are)
      (subst (λ (x : Reply × MachineState). Serves x (made_messages m told) part (g, n) new reply)
      (sym effect_is) served))

  -- ---- the directory was made

  module _ (a : Attr) (u : Tree) (is : told ≡ Ok (a, u)) where
    all : IsGoodTree u × Leaves held n.state.tree u
        × IsSome (get u.records a.ino)
    all = mkdir_leaves n.state.tree good.tree held name (sym fine) k.ino mode a u is

    kept_now : IsKept u.records held
    kept_now = mkdir_stays n.state.tree good.tree held name (sym fine) k.ino mode a u is
        (subst (λ (h : ℕ → Bool). IsKept n.state.tree.records h) (sym (held_same n st)) good.kept)

    abbrev m1 : MachineState
    m1 = record m { tree = u }

    abbrev s1 : ServerState
    s1 = record n.state { tree = u }

    stand_is : (changed n.state qid_of (Ok (a, u))).1 ≡ s1
    stand_is = ap (λ (t : Tree). let x : ServerState = record n.state { tree = t } in x)
        (ap (λ (h : ℕ → Bool). keep h u) (sym (held_same n st)) ∙ keep_same u held kept_now)

    stands_now : IsInStep g s1
    stands_now = record {
      good = changed_tree_good n.state.settings m st.good u all.0 all.1;
      paired = tree_paired g n.state u st
          (subst (λ (t : Tree). KeepsKinds n.state.tree t) (keep_same u held kept_now)
          (leaves_kinds held n.state.tree u all.1));
      roomy = st.roomy;
    }

    -- it is left, whatever is named besides
    tree_is : (kept_state (looked_up n.state.settings m1 (Ok a.ino)).1).tree ≡ u
    tree_is =
        let o = node_found m a.ino in
        let x = (node_for m1 a.ino o).1 in
        ap (λ (t : Tree). keep (is_named x.nodes x.handles) t) (node_tree m1 a.ino o)
        ∙ kept_more u held (is_named x.nodes x.handles)
        (λ i. given_named n.state.settings m1
        (changed_tree_good n.state.settings m st.good u all.0 all.1) a.ino i o refl) kept_now

    made_part : (t : Tree) → t ≡ u → part t
    made_part t same = told_part t (same ∙ sym tree_is
        ∙ ap (λ (c : Result (Attr × Tree) ℕ). (kept_state (made n.state.settings m c).1).tree)
        (sym is))

    -- ---- it is looked up

    looked : answer_of n.state.settings m1 node (Ok (lookup name))
        ≡ made n.state.settings m (Ok (a, u))
    looked = ap (λ (o : Option ℕ). refused_or m1 o (looked_up n.state.settings m1
        (find n.state.settings.casefold u (node_ino (get m.nodes node)) name))) none
        ∙ ap (λ (o : Option MachineNode). looked_up n.state.settings m1
        (find n.state.settings.casefold u (node_ino o) name)) (node_seen st node (Some k) at)
        ∙ ap (looked_up n.state.settings m1) (mkdir_found n.state.tree good.tree held name
        (sym fine) n.state.settings.casefold k.ino mode a u is)

    counted : (piece : ℕ) → 1 + request_messages piece n.state.settings m1 node (Ok (lookup name))
        ≡ made_messages m (Ok (a, u))
    counted piece = ap (λ (o : Option ℕ). 1 + none_or o (found_messages m1
        (find n.state.settings.casefold u (node_ino (get m.nodes node)) name))) none
        ∙ ap (λ (o : Option MachineNode). 1 + found_messages m1
        (find n.state.settings.casefold u (node_ino o) name)) (node_seen st node (Some k) at)
        ∙ ap (λ (r : Result ℕ ℕ). 1 + found_messages m1 r)
        (mkdir_found n.state.tree good.tree held name (sym fine)
        n.state.settings.casefold k.ino mode a u is)

    module _ (g1 : Gate) (n1 : Moment) (sent : g1 ≡ one_sent g) (asked : AskedOne n n1)
        (rises : n.faults ≤ n1.faults) (state : n1.state ≡ s1) where
      alone : SentAlone 1 g n g1 n1
      alone = one_alone g1 n1 sent asked

      pub stands_at : IsInStep g1 n1.state
      stands_at = subst (IsInStep g1) (sym state)
          (subst (λ (x : Gate). IsInStep x s1) (sym alone.gate)
          (sent_stands stands_now g1.nine_frames))

      same : machine_of g1 n1.state ≡ m1
      same = ap (machine_of g1) state ∙ ap (λ (x : Gate). machine_of x s1) alone.gate

      settings : n1.state.settings ≡ n.state.settings
      settings = ap (λ (x : ServerState). x.settings) state

      answer_is : answer_of n1.state.settings (machine_of g1 n1.state) node (Ok (lookup name))
          ≡ made n.state.settings m told
      answer_is = (λ j. answer_of (settings j) (same j) node (Ok (lookup name))) ∙ looked
          ∙ ap (made n.state.settings m) (sym is)

      count_is : 1 + request_messages (piece_of n1.state) n1.state.settings
          (machine_of g1 n1.state) node (Ok (lookup name)) ≡ made_messages m told
      count_is = (λ j. 1 + request_messages (piece_of n1.state) (settings j) (same j) node
          (Ok (lookup name))) ∙ counted (piece_of n1.state) ∙ ap (made_messages m) (sym is)

      pub looked_part : (t : Tree)
          → PartOf n1.state.settings (machine_of g1 n1.state) node (Ok (lookup name)) t → part t
      looked_part t (inl (inl old)) =
          made_part t (old ∙ ap (λ (x : ServerState). x.tree) state)
      looked_part t (inl (inr new)) =
          told_part t (new
          ∙ ap (λ (x : Reply × MachineState). (kept_state x.1).tree) answer_is)
      looked_part t (inr never) = absurd never

      pub looked_up_served : (new : Gate × Moment) (reply : Reply)
          → ServesRequest node (lookup name) (g1, n1) new reply
          → Serves (made n.state.settings m told) (made_messages m told) part (g, n) new reply
      looked_up_served new reply served =
          let first = alone.messages.frames in
          let handed = alone.messages.asked in
          let more = served.messages.frames in
          let then = served.messages.asked in
          record {
            stands = served.stands;
            sent = 1 + served.sent;
            messages = record {
              frames = omega (arith, first, more);
              asked = omega (arith, handed, then);
            };
            outcome = ⊎_elim
                (λ e. inl (
                  e.0 ∙ ap (λ (x : Reply × MachineState). x.0) answer_is,
                  e.1 ∙ ap (λ (x : Reply × MachineState). kept_state x.1) answer_is,
                  ap (λ c. 1 + c) e.2 ∙ count_is,
                ))
                (λ f. let rose = f.0 in inr (
                  omega (arith, rises, rose),
                  f.1,
                  f.2 ∙ ap (λ (x : MachineState). let y : MachineState =
                      record x { tree = new.1.state.tree } in y) same,
                  looked_part new.1.state.tree f.3,
                ))
                served.outcome;
          }

      -- a fault was met after it was made
      hurt_after : Rose n.faults n1.faults
          → Serves (made n.state.settings m told) (made_messages m told) part (g, n) (g1, n1)
          (Refused EIO)
      hurt_after rose = record {
        stands = stands_at;
        sent = 1;
        messages = alone.messages;
        outcome = inr (
          rose,
          refl,
          ap (λ (x : Gate). machine_of x n1.state) alone.gate,
          made_part n1.state.tree (ap (λ (x : ServerState). x.tree) state),
        );
      }

  -- ---- the message was answered

  abbrev stand : Result (Attr × Tree) ℕ → Tree
  stand c = (changed n.state qid_of c).1.tree

  left_part : (c : Result (Attr × Tree) ℕ) → told ≡ c → (t : Tree) → t ≡ stand c → part t
  left_part (Ok (a, u)) is t same =
      made_part a u is t (same ∙ ap (λ (x : ServerState). x.tree) (stand_is a u is))
  left_part (Err e) is t same = inl (inl same)

  module _ (server : Result (Attr × Tree) ℕ) (tells : server ≡ told) where
    -- what is left of the tree where the message wasn't answered
    pub mkdir_part : (t : Tree) → OldOrTold (changed n.state qid_of server) n.state.tree t → part t
    mkdir_part t left = ⊎_elim (λ same. inl (inl same))
        (λ is. left_part told refl t (is ∙ ap stand tells)) left

    module _ (g1 : Gate) (n1 : Moment) (sent : g1 ≡ one_sent g) (asked : AskedOne n n1)
        (rises : n.faults ≤ n1.faults) where
      -- it was made
      pub mkdir_made : (x answer : Result Qid ℕ) (q : Qid) → x ≡ answer → answer ≡ Ok q
          → Asks (changed n.state qid_of server) (OldOrTold (changed n.state qid_of server)) x
          n.state n1.state n.faults n1.faults
          → (a : Attr) × (u : Tree) × (told ≡ Ok (a, u)) × (n1.state ≡ record n.state { tree = u })
      mkdir_made x answer q is made (inl e) = by_told told refl
          (sym (λ j. let y : Result Qid ℕ × ServerState = (is j, n1.state) in y) ∙ e
          ∙ ap (changed n.state qid_of) tells)
        where
          by_told : (c : Result (Attr × Tree) ℕ) → told ≡ c
              → ◌≡◌ {A = Result Qid ℕ × ServerState} (answer, n1.state) (changed n.state qid_of c)
              → (a : Attr) × (u : Tree) × (told ≡ Ok (a, u))
              × (n1.state ≡ record n.state { tree = u })
          by_told (Ok (a, u)) same e = (
            a,
            u,
            same,
            ap (λ (y : Result Qid ℕ × ServerState). y.1) e ∙ stand_is a u same,
          )
          by_told (Err d) same e = absurd (let clash : Ok q ≡ Err d =
              sym made ∙ ap (λ (y : Result Qid ℕ × ServerState). y.0) e in cc)
      mkdir_made x answer q is made (inr (rose, eio, only, left)) =
          absurd (let clash : Ok q ≡ Err EIO = sym made ∙ sym is ∙ eio in cc)

      -- it was refused, or a fault was met
      pub mkdir_refused : (x : Result Qid ℕ) (d : ℕ) → x ≡ Err d
          → Asks (changed n.state qid_of server) (OldOrTold (changed n.state qid_of server)) x
          n.state n1.state n.faults n1.faults
          → ServesRequest node (mkdir mode name) (g, n) (g1, n1) (Refused d)
      mkdir_refused x d is (inl e) = mkdir_served (g1, n1) (Refused d)
          (by_told told refl
          (sym (λ j. let y : Result Qid ℕ × ServerState = (is j, n1.state) in y) ∙ e
          ∙ ap (changed n.state qid_of) tells))
        where
          by_told : (c : Result (Attr × Tree) ℕ) → told ≡ c
              → ◌≡◌ {A = Result Qid ℕ × ServerState} (Err d, n1.state) (changed n.state qid_of c)
              → Serves (made n.state.settings m told) (made_messages m told) part (g, n) (g1, n1)
              (Refused d)
          by_told (Ok (a, u)) same e = absurd (let clash : Err d ≡ Ok (qid_of a) =
              ap (λ (y : Result Qid ℕ × ServerState). y.0) e in cc)
          by_told (Err b) same e =
              let equal : d ≡ b = (let both : ◌≡◌ {A = Result Qid ℕ} (Err d) (Err b) =
              ap (λ (y : Result Qid ℕ × ServerState). y.0) e in cc) in
              subst (λ (c : Result (Attr × Tree) ℕ). Serves (made n.state.settings m c)
              (made_messages m c) part (g, n) (g1, n1) (Refused d)) (sym same)
              (unchanged st (made n.state.settings m (Err b)) 1 part good g1 n1 (Refused d)
              (one_alone g1 n1 sent asked)
              (ap (λ (y : Result Qid ℕ × ServerState). y.1) e) (ap Refused equal) refl)
      mkdir_refused x d is (inr (rose, eio, only, left)) =
          let equal : d ≡ EIO = (let both : ◌≡◌ {A = Result Qid ℕ} (Err d) (Err EIO) =
          sym is ∙ eio in cc) in
          subst (λ (e : ℕ). ServesRequest node (mkdir mode name) (g, n) (g1, n1) (Refused e))
          (sym equal)
          (mkdir_served (g1, n1) (Refused EIO) (⊎_elim
          (λ same. hurt st (made n.state.settings m told) (made_messages m told) part 1 g1 n1
          (one_alone g1 n1 sent asked)
          (only ∙ ap (λ (t : Tree). let y : ServerState = record n.state { tree = t } in y) same)
          rose (inl (inl refl)))
          (λ same. by_told told refl (same ∙ ap stand tells)) left))
        where
          by_told : (c : Result (Attr × Tree) ℕ) → told ≡ c → n1.state.tree ≡ stand c
              → Serves (made n.state.settings m told) (made_messages m told) part (g, n) (g1, n1)
              (Refused EIO)
          by_told (Ok (a, u)) now same = hurt_after a u now g1 n1 sent asked rises
              (only ∙ ap (λ (t : Tree). let y : ServerState = record n.state { tree = t } in y)
              (same ∙ ap (λ (y : ServerState). y.tree) (stand_is a u now))) rose
          by_told (Err b) now same = hurt st (made n.state.settings m told) (made_messages m told)
              part 1 g1 n1 (one_alone g1 n1 sent asked)
              (only ∙ ap (λ (t : Tree). let y : ServerState = record n.state { tree = t } in y)
              same) rose (inl (inl refl))
