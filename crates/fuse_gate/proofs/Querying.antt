-- Requests that are answered by one message and change nothing: STATFS, READLINK, FSYNC, and those
-- that the server refuses.
use Rattle.std.proofs.Common.{◌≡◌, ℕ, ◌+◌, ◌≤◌, Bool, false, List, length, refl}
use Rattle.std.proofs.Common.{sym, ap, ◌∙◌, subst, Option, Some, None, Result, Ok, Err, arith}
use Rattle.std.proofs.Common.{nat_lt, cond}
use Rattle.std.specs.Prelude.{option_map}
use Rattle.std.proofs.lemmas.Bool.Decides.{nat_tests}
use Rattle.std.specs.FinMap.{get}
use Rattle.port_base.specs.declared.errno.TheConstants.{EBADF, EIO, ESTALE}
use Rattle.p9_rmsg.specs.Replies.{Reply as NineReply}
use Rattle.p9_rmsg.specs.Replies.Reply.{statfs as r_statfs}
use Rattle.tree_model.specs.Attributes.{Qid, statfs_of}
use Rattle.tree_model.specs.Good.{IsGoodTree, IsGoodBody}
use Rattle.tree_model.specs.Opening.{body_answer, readlink_body, readlink_of}
use Rattle.tree_model.specs.Tree.{Record, Body, body_at}
use Rattle.tree_model.specs.Tree.Body.{File, Directory, Link}
use Rattle.fuse_wire.specs.Request.{Request, readlink, statfs, fsync}
use Rattle.tree_machine.specs.State.{MachineState, Node as MachineNode, Handle as MachineHandle}
use Rattle.tree_machine.specs.Replies.{Reply}
use Rattle.tree_machine.specs.Replies.Reply.{Refused, Sizes, Done}
use Rattle.tree_machine.specs.Refusals.{refused_unknown}
use Rattle.tree_machine.specs.Core.{node_ino, bytes_reply}
use Rattle.tree_machine.specs.Requests.{refusal_before, effect_of, sizes_reply}
use Rattle.tree_machine.specs.Messages.{effect_messages}
use Rattle.fid_model.specs.Fids.{ServerState, Fid, IsGoodServer, is_open}
use Rattle.fid_model.specs.FidCalls.{by_fid, by_open_fid}
use Rattle.fid_model.specs.Files.{statfs_told, fsync_told, readlink_told, fitting_target}
use Rattle.fid_model.specs.Moments.{Moment, Answered, Untouched}
use Rattle.p9_client.specs.Views.{sizes_told}
use Rattle.fuse_gate.specs.Standing.{IsInStep, machine_of, node_of, piece_of}
use Rattle.fuse_gate.specs.Steps.{Serves, ServesRequest}
use Rattle.fuse_gate.specs.Changes.{one_sent}
use Rattle.fuse_gate.specs.declared.gate.Node.{Node}
use Rattle.fuse_gate.specs.declared.gate.Handle.{Handle}
use Rattle.fuse_gate.specs.declared.gate.Gate.{Gate}
use Rattle.fuse_gate.proofs.Asking.{Tells, answered_tells, state_same}
use Rattle.fuse_gate.proofs.Standings.{node_fid, handle_fid, node_seen, handle_seen}
use Rattle.fuse_gate.proofs.Serving.{one_alone, one_message, unchanged, served_after}
use Rattle.fuse_gate.proofs.TreeChanging.{done_reply}

-- ---- any such request

module _ {g : Gate} (n : Moment) (st : IsInStep g n.state) (good : IsGoodServer n.state)
    (node : ℕ) (r : Request) {A : Type 0} (view : Result A ℕ → Reply)
    (eio : view (Err EIO) ≡ Refused EIO) (told : Result A ℕ) where
  abbrev m : MachineState
  m = machine_of g n.state

  module _ (none : refusal_before n.state.settings m node r ≡ None)
      (effect : effect_of n.state.settings m node r ≡ (view told, m))
      (one : effect_messages (piece_of n.state) n.state.settings m node r ≡ 1) where
    pub shown_served : (g1 : Gate) (n1 : Moment) (x answer : Result A ℕ) → x ≡ answer
        → g1 ≡ one_sent g → n.faults ≤ n1.faults → Answered (told, n.state) Untouched x n n1
        → ServesRequest node r (g, n) (g1, n1) (view answer)
    shown_served g1 n1 x answer is sent rises answered =
        let alone = one_alone g1 n1 sent answered.asked in
        let tells : Tells (told, n.state) answer n n1 =
        subst (λ (y : Result A ℕ). Tells (told, n.state) y n n1) is (answered_tells answered) in
        served_after st good node r none (g1, n1) (view answer)
        (subst (λ (k : ℕ). Serves
        (effect_of n.state.settings m node r) k (Untouched n.state.tree) (g, n) (g1, n1)
        (view answer)) (sym one)
        (subst (λ (y : Reply × MachineState). Serves y 1
        (Untouched n.state.tree) (g, n) (g1, n1) (view answer)) (sym effect)
        (one_message st (view told, m) 1 (Untouched n.state.tree) (told, n.state) answer view eio
        1 g1 n1 alone rises refl tells
        (λ e. unchanged st (view told, m) 1 (Untouched n.state.tree) good g1 n1 (view answer) alone
        (ap (λ (y : Result A ℕ × ServerState). y.1) e)
        (ap (λ (y : Result A ℕ × ServerState). view y.0) e) refl))))

-- a message that changes nothing was answered
pub shown_same : {A : Type 0} {told answer : Result A ℕ} {n n1 : Moment}
    → Answered (told, n.state) Untouched answer n n1 → Untouched n.state.tree n1.state.tree
shown_same {told = told} {answer = answer} {n = n} {n1 = n1} answered =
    ap (λ (s : ServerState). s.tree) (state_same told answer n n1 (answered_tells answered))

-- ---- the answers, as replies

abbrev pub sizes_shown : Result NineReply ℕ → Reply
sizes_shown (Ok (r_statfs ty bsize blocks bfree bavail files ffree fsid namelen)) =
    Sizes blocks files
sizes_shown (Ok _) = Done
sizes_shown (Err e) = Refused e

-- nothing is told of what was made
abbrev pub qid_reply : Result Qid ℕ → Reply
qid_reply (Ok q) = Done
qid_reply (Err e) = Refused e

-- ---- those that ask about a node

module _ {g : Gate} (n : Moment) (st : IsInStep g n.state) (node : ℕ) where
  abbrev state : MachineState
  state = machine_of g n.state

  abbrev unknown : Option ℕ
  unknown = refused_unknown (get state.nodes node) ESTALE

  unknown_as : (o : Option Node) → get g.nodes node ≡ o
      → unknown ≡ refused_unknown (option_map node_of o) ESTALE
  unknown_as o at = ap (λ (o : Option MachineNode). refused_unknown o ESTALE)
      (node_seen st node o at)

  pub node_unknown : get g.nodes node ≡ None → unknown ≡ Some ESTALE
  node_unknown at = unknown_as None at

  module _ (k : Node) (at : get g.nodes node ≡ Some k) where
    pub node_known : unknown ≡ None
    node_known = unknown_as (Some k) at

    pub sizes_are : sizes_shown (sizes_told (statfs_told n.state node)) ≡ sizes_reply n.state.tree
    sizes_are = ap (λ (o : Option Fid). sizes_shown (sizes_told
        (by_fid (λ f. Ok (statfs_of n.state.tree)) o))) (node_fid st node k at)

    pub sizes_effect : effect_of n.state.settings state node statfs
        ≡ (sizes_shown (sizes_told (statfs_told n.state node)), state)
    sizes_effect = ap (λ (r : Reply). let x : Reply × MachineState = (r, state) in x)
        (sym sizes_are)

    -- a target is short enough for every frame
    fits : (b : Option Body) → ((x : Body) → b ≡ Some x → IsGoodBody x)
        → fitting_target n.state.msize (body_answer readlink_body b) ≡ body_answer readlink_body b
    fits None good = refl
    fits (Some (File bytes)) good = refl
    fits (Some (Directory es next above)) good = refl
    fits (Some (Link target)) good =
        let short : length target ≤ 4000 = (good (Link target) refl).1 in
        let roomy = st.roomy in
        ap (λ (b : Bool). cond b (Err 36) (Ok target))
        (small (9 + length target) n.state.msize (omega arith))
      where
        small : (a b : ℕ) → a ≤ b → nat_lt b a ≡ false
        small a b low = grind (arith, nat_tests)

    body_good : IsGoodTree n.state.tree → (x : Body)
        → body_at n.state.tree.records k.ino ≡ Some x → IsGoodBody x
    body_good good x is = by_record (get n.state.tree.records k.ino) refl is
      where
        by_record : (o : Option Record) → get n.state.tree.records k.ino ≡ o
            → option_map (λ (r : Record). r.body) o ≡ Some x → IsGoodBody x
        by_record None here is = absurd cc
        by_record (Some r) here is =
            let same : r.body ≡ x = cc in
            subst IsGoodBody same (good.records k.ino r here).body

    pub target_is : IsGoodServer n.state
        → readlink_told n.state node ≡ readlink_of n.state.tree k.ino
    target_is good =
        ap (λ (o : Option Fid). by_fid (λ f. fitting_target n.state.msize
        (readlink_of n.state.tree f.ino)) o) (node_fid st node k at)
        ∙ fits (body_at n.state.tree.records k.ino) (body_good good.tree)

    pub target_effect : IsGoodServer n.state → effect_of n.state.settings state node readlink
        ≡ (bytes_reply (readlink_told n.state node), state)
    target_effect good =
        ap (λ (o : Option MachineNode). let x : Reply × MachineState =
        (bytes_reply (readlink_of n.state.tree (node_ino o)), state) in x)
        (node_seen st node (Some k) at)
        ∙ ap (λ (t : Result (List ℕ) ℕ). let x : Reply × MachineState =
        (bytes_reply t, state) in x) (sym (target_is good))

-- ---- FSYNC and FSYNCDIR

module _ {g : Gate} (n : Moment) (st : IsInStep g n.state) (handle : ℕ) where
  pub sync_effect : (h : Handle) → get g.handles handle ≡ Some h
      → effect_of n.state.settings (machine_of g n.state) 0 (fsync handle 0)
      ≡ (done_reply (fsync_told n.state handle), machine_of g n.state)
  sync_effect h at = ap (λ (o : Option Fid). let x : Reply × MachineState =
      (done_reply (by_open_fid is_open (λ f. Ok tt) o), machine_of g n.state) in x)
      (sym (handle_fid st handle h at))

  pub handle_known : (h : Handle) → get g.handles handle ≡ Some h
      → refused_unknown (get (machine_of g n.state).handles handle) EBADF ≡ None
  handle_known h at = ap (λ (o : Option MachineHandle). refused_unknown o EBADF)
      (handle_seen st handle (Some h) at)
