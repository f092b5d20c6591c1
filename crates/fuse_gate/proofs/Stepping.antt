-- A whole frame: its turn, and the bytes of its reply.
use Rattle.std.proofs.Common.{◌≡◌, ℕ, ◌-◌, ◌≤◌, Bool, true, false, cond, min, List, [], ◌++◌}
use Rattle.std.proofs.Common.{length, refl, sym, ap, ◌∙◌, subst, Result, Ok, Err, inl, inr, ⊎_elim}
use Rattle.std.proofs.Common.{arith}
use Rattle.std.proofs.lemmas.Bool.Decides.{nat_tests}
use Rattle.std.proofs.lemmas.List.{append-nil}
use Rattle.port_base.specs.declared.errno.TheConstants.{EIO, EPROTO}
use Rattle.fuse_wire.specs.Cuts.{IsFrame, is_allowed}
use Rattle.fuse_wire.specs.Opcode.{is_silent}
use Rattle.fuse_wire.specs.Head.{head_of}
use Rattle.fuse_wire.specs.declared.head.Head.{Head}
use Rattle.fuse_wire.specs.Request.{Request, request_of}
use Rattle.tree_machine.specs.State.{MachineState}
use Rattle.tree_machine.specs.Replies.{Reply, reply_bytes, answer_bytes}
use Rattle.tree_machine.specs.Replies.Reply.{Refused}
use Rattle.tree_machine.specs.Requests.{answer_of}
use Rattle.tree_machine.specs.Step.{frame_answer, request_in_turn, is_in_turn}
use Rattle.tree_machine.specs.Messages.{request_messages}
use Rattle.tree_machine.specs.Faults.{PartOf}
use Rattle.fid_model.specs.Fids.{IsGoodServer}
use Rattle.fid_model.specs.Moments.{Moment, Keeps}
use Rattle.p9_wire.specs.declared.protocol.TheConstants.{RREAD_HEADER_SIZE}
use Rattle.frame_pump.specs.Sessions.{Stays, AppendsAnswer}
use Rattle.fuse_gate.specs.Standing.{IsInStep, machine_of, phase_of, piece_of}
use Rattle.fuse_gate.specs.Steps.{Serves, ServesRequest, LeavesPartOf, ServesFrame}
use Rattle.fuse_gate.specs.Steps.{LeavesPartOfFrame, machine_at}
use Rattle.fuse_gate.specs.Pump.{session_of}
use Rattle.fuse_gate.specs.declared.gate.TheConstants.{GREATEST_MSIZE}
use Rattle.fuse_gate.specs.declared.gate.Gate.{Gate}
use Rattle.fuse_gate.specs.declared.gate.Phase.{Phase}
use Rattle.fuse_gate.proofs.Serving.{none_sent, unchanged}

allowed_long : (len : ℕ) → is_allowed len ≡ true → 40 ≤ len
unfolding is_allowed
allowed_long len h = grind (arith, nat_tests)

pub frame_long : (frame : List ℕ) → IsFrame frame → 40 ≤ length frame
frame_long frame f = allowed_long (length frame) f.allowed

-- ---- what is asked

-- the turn by the head that was read
module _ (phase : Phase) (h : Head) (frame : List ℕ) (head : h ≡ head_of frame) where
  pub asked_by : (b : Bool) → b ≡ is_in_turn (phase_of phase) h.opcode
      → request_in_turn (phase_of phase) frame ≡ cond b (request_of frame) (Err EPROTO)
  asked_by b is = ap (λ b. cond b (request_of frame) (Err EPROTO))
      (ap (λ (x : Head). is_in_turn (phase_of phase) x.opcode) (sym head) ∙ sym is)

module _ {g : Gate} (n : Moment) (st : IsInStep g n.state) (good : IsGoodServer n.state)
    (frame : List ℕ) where
  abbrev m : MachineState
  m = machine_of g n.state

  -- what a frame asks is refused before it is served
  pub refused_frame : (errno : ℕ) → request_in_turn (phase_of g.phase) frame ≡ Err errno
      → ServesFrame frame (g, n) (g, n) (Refused errno)
  refused_frame errno is =
      subst (λ (r : Result Request ℕ). Serves
      (answer_of n.state.settings m (head_of frame).nodeid r)
      (request_messages (piece_of n.state) n.state.settings m (head_of frame).nodeid r)
      (PartOf n.state.settings m (head_of frame).nodeid r) (g, n) (g, n) (Refused errno))
      (sym is)
      (unchanged st (Refused errno, m) 0 (PartOf n.state.settings m (head_of frame).nodeid
      (Err errno)) good g n (Refused errno) (none_sent g n) refl refl refl)

  module _ (node : ℕ) (r : Request) (is : request_in_turn (phase_of g.phase) frame ≡ Ok r)
      (at : node ≡ (head_of frame).nodeid) where
    pub served_frame : (new : Gate × Moment) (reply : Reply) → ServesRequest node r (g, n) new reply
        → ServesFrame frame (g, n) new reply
    served_frame new reply served =
        subst (λ (q : Result Request ℕ). Serves
        (answer_of n.state.settings m (head_of frame).nodeid q)
        (request_messages (piece_of n.state) n.state.settings m (head_of frame).nodeid q)
        (PartOf n.state.settings m (head_of frame).nodeid q) (g, n) new reply) (sym is)
        (subst (λ i. ServesRequest i r (g, n) new reply) at served)

    pub part_of_frame : (new : Moment) → LeavesPartOf node r (g, n) new
        → LeavesPartOfFrame frame (g, n) new
    part_of_frame new part =
        subst (λ (q : Result Request ℕ). PartOf n.state.settings m (head_of frame).nodeid q
        new.state.tree) (sym is)
        (subst (λ i. LeavesPartOf i r (g, n) new) at part)

-- ---- the bytes of the reply

abbrev put : List ℕ → Bool → Reply → List ℕ
put frame silent r = cond silent [] (reply_bytes (head_of frame).unique r)

answered : (frame : List ℕ) (silent : Bool) (r : Reply) → is_silent (head_of frame).opcode ≡ silent
    → put frame silent r ≡ answer_bytes frame r
answered frame silent r is = ap (λ b. cond b [] (reply_bytes (head_of frame).unique r)) (sym is)

-- of a request that was served, all was done or a part
pub served_part : (frame : List ℕ) (old new : Gate × Moment) (reply : Reply)
    → ServesFrame frame old new reply → LeavesPartOfFrame frame old new.1
served_part frame old new reply served = ⊎_elim
    (λ e. inl (inr (ap (λ (m : MachineState). m.tree) e.1))) (λ k. k.3) served.outcome

stays_of : (old new : Gate × Moment) → Keeps old.1 new.1
    → Stays (session_of old.0 old.1) (session_of new.0 new.1)
stays_of old new k = record {
  settings = k.fixed;
  piece =
      ap (λ n. min n GREATEST_MSIZE - RREAD_HEADER_SIZE) k.sized;
  steady = k.steady;
  steadily =
      k.steadily;
  rises = k.rises;
}

module _ (frame : List ℕ) (h : Head) (old new : Gate × Moment) (reply : Reply)
    (before kept after : List ℕ) (head : h ≡ head_of frame) (same : kept ≡ before)
    (keeps : Keeps old.1 new.1) (served : ServesFrame frame old new reply) where
  appends : (silent : Bool) → silent ≡ is_silent h.opcode → after ≡ before ++ put frame silent reply
      → AppendsAnswer (session_of old.0 old.1) (session_of new.0 new.1) frame before after
  appends silent is behind =
      let quiet : is_silent (head_of frame).opcode ≡ silent =
      ap (λ (x : Head). is_silent x.opcode) (sym head) ∙ sym is in (
        put frame silent reply,
        behind,
        record {
          stays = stays_of old new keeps;
          number = served.sent;
          sent = served.messages.frames;
          asked = served.messages.asked;
          outcome = ⊎_elim
              (λ e. inl (
                ap (put frame silent) e.0
                    ∙ answered frame silent (frame_answer old.1.state.settings (machine_at old)
                    frame).0 quiet,
                e.1,
                e.2,
              ))
              (λ k. inr (
                k.0,
                record {
                  answered = ap (put frame silent) k.1
                      ∙ answered frame silent (Refused EIO) quiet;
                  state = k.2;
                  tree = k.3;
                },
              ))
              served.outcome;
        },
      )

  pub answers_spoken : false ≡ is_silent h.opcode → after ≡ kept ++ reply_bytes h.unique reply
      → AppendsAnswer (session_of old.0 old.1) (session_of new.0 new.1) frame before after
  answers_spoken is behind = appends false is
      (behind ∙ ap (λ (x : Head). kept ++ reply_bytes x.unique reply) head
      ∙ ap (λ bytes. bytes ++ reply_bytes (head_of frame).unique reply) same)

  pub answers_silent : true ≡ is_silent h.opcode → after ≡ kept
      → AppendsAnswer (session_of old.0 old.1) (session_of new.0 new.1) frame before after
  answers_silent is unchanged = appends true is (unchanged ∙ same ∙ sym (append-nil before))
