-- One message from its frame to its reply.
use Rattle.std.proofs.Common.{◌≡◌, inl, inr, ⊎_elim, ℕ, List, ◌++◌, refl, sym, ap, ◌∙◌, subst}
use Rattle.std.proofs.Common.{Option, Some, None, Result, Ok, Err, arith}
use Rattle.std.specs.Io.KnownBytes.{Appends, Keeps}
use Rattle.port_base.specs.Faults.{Faulted}
use Rattle.p9_wire.specs.declared.error.WireError.{WireError}
use Rattle.p9_wire.specs.declared.error.WireError.TheVariants.{InvalidInput, InvalidData}
use Rattle.p9_wire.specs.declared.error.WireError.TheVariants.{UnexpectedEof, Read, Write, NoMemory}
use Rattle.p9_wire.specs.Frames.{result_view}
use Rattle.p9_tmsg.specs.declared.frame.Tframe.{Tframe}
use Rattle.p9_wire.specs.Reading.{Found}
use Rattle.p9_tmsg.specs.Messages.{Message, message_of}
use Rattle.p9_tmsg.specs.Frames.{frame_within}
use Rattle.p9_rmsg.specs.Replies.{reply_of}
use Rattle.p9_rmsg.specs.Frames.{reply_frame}
use Rattle.p9_rmsg.specs.declared.message.Rmessage.{Rmessage}
use Rattle.fid_model.specs.Fids.{ServerState}
use Rattle.fid_model.specs.Moments.{Moment}
use Rattle.fid_model.specs.Handling.{Handled, IsUnanswered, Replied}
use Rattle.p9_server.specs.Answering.{Answered, IsSent, IsShort, LeavesBody}
use Rattle.p9_server.specs.Handling.{ReadsFrame}
use Rattle.p9_server.proofs.Sending.{reply_length}

-- what was kept before is sent after it
kept_appends : (a b c : Option (List ℕ)) (bytes : List ℕ) → Keeps a b → Appends b c bytes
    → Appends a c bytes
kept_appends None b c bytes h k = tt
kept_appends (Some xs) None c bytes h k = absurd h
kept_appends (Some xs) (Some ys) None bytes h k = k
kept_appends (Some xs) (Some ys) (Some zs) bytes h k = k ∙ ap (λ (l : List ℕ). l ++ bytes) h

pub kept_twice : (a b c : Option (List ℕ)) → Keeps a b → Keeps b c → Keeps a c
kept_twice None b c h k = tt
kept_twice (Some xs) None c h k = absurd h
kept_twice (Some xs) (Some ys) None h k = absurd k
kept_twice (Some xs) (Some ys) (Some zs) h k = k ∙ h

kept_refl : (w : Option (List ℕ)) → Keeps w w
kept_refl None = tt
kept_refl (Some xs) = refl

-- what out of memory leaves of a frame that was read
left_unanswered : (s0 s1 : ServerState) (l0 l1 : Option (List ℕ)) (tag : ℕ)
    (body : Result Message WireError) → Found (frame_within s0.msize) l0 l1 (tag, body)
    → LeavesBody body s0 s1 → IsUnanswered s0 s1 l0 l1
left_unanswered s0 s1 l0 l1 tag (Ok m) read left = inr (tag, m, read, left)
left_unanswered s0 s1 l0 l1 tag (Err fault) read same = inl same

module _ (old new : Moment) (asked : ℕ) (l0 l1 w0 w1 w2 : Option (List ℕ))
    (in0 in1 out0 out1 out2 : ℕ) where
  -- a frame that can't be read
  pub unread : (same : new.state ≡ old.state) → new.faults ≡ old.faults → (e : WireError)
      → ReadsFrame old.state.msize l0 l1 in0 in1 (Err e)
      → Handled {X = Unit {0}} old new l0 l1 w0 w0 in0 in1 out0 out0 (Err e)
  unread same calm InvalidInput r = absurd r.frame
  unread same calm InvalidData r = record {
    answer =
        ((r.frame.0, refl), (same, calm, kept_refl w0), r.frame.1, r.frame.2);
  }
  unread same calm UnexpectedEof r = record {
    answer =
        ((r.frame.0, refl), (same, calm, kept_refl w0), r.frame.1, r.frame.2);
  }
  unread same calm Read r = record { answer = (r.frame, refl, (same, calm, kept_refl w0)) }
  unread same calm Write r = absurd r.frame
  unread same calm NoMemory r = record { answer = ((r.frame, refl), kept_refl w0, inl same) }

  module _ (frame : Tframe) (read : ReadsFrame old.state.msize l0 l1 in0 in1 (Ok frame))
      (kept : Keeps w0 w1) (room : out1 ≡ out0) where
    -- no room for a reply, where nothing changed
    pub unreserved : new.state ≡ old.state → (e : WireError) → e ≡ NoMemory
        → Handled {X = Unit {0}} old new l0 l1 w0 w1 in0 in1 out0 out1 (Err e)
    unreserved same e is = subst (λ (d : WireError). Handled {X = Unit {0}} old new l0 l1 w0 w1 in0
        in1 out0 out1 (Err d)) (sym is)
        (record { answer = ((read.frame.0, room), kept, inl same) })

    -- no memory for an answer
    pub unanswered : (e : WireError) → Answered (result_view message_of frame.msg)
        (record old { asked = asked }) new (Err e)
        → Handled {X = Unit {0}} old new l0 l1 w0 w1 in0 in1 out0 out1 (Err e)
    unanswered e a = subst (λ (d : WireError). Handled {X = Unit {0}} old new l0 l1 w0 w1 in0 in1
        out0 out1 (Err d)) (sym a.answer.0)
        (record {
          answer = (
            (read.frame.0, room),
            kept,
            left_unanswered old.state new.state l0 l1
                frame.tag (result_view message_of frame.msg) read.frame.1 a.answer.1,
          );
        })

    module _ (r : Rmessage) (a : Answered (result_view message_of frame.msg)
        (record old { asked = asked }) new (Ok r)) where
      -- no room for a long reply
      pub unsent : (e : WireError) → (e ≡ NoMemory) × ¬ IsShort (reply_of r) → Keeps w1 w2
          → out2 ≡ out1 → Handled {X = Unit {0}} old new l0 l1 w0 w2 in0 in1 out0 out2 (Err e)
      unsent e long more still = subst (λ (d : WireError). Handled {X = Unit {0}} old new l0 l1 w0
          w2 in0 in1 out0 out2 (Err d)) (sym long.0)
          (record {
            answer = (
              (read.frame.0, still ∙ room),
              kept_twice w0 w1 w2 kept more,
              inl
                  (⊎_elim (λ short. absurd (long.1 short)) (λ same. same) a.answer.1.room),
            );
          })

      -- the reply, or a front of it
      replied : Replied old.state new.state old.faults new.faults l0 l1
          (reply_frame frame.tag (reply_of r))
      replied = record {
        tag = frame.tag;
        body = result_view message_of frame.msg;
        reply = reply_of r;
        read = read.frame.1;
        spelled = refl;
        spells = a.answer.1.fits.spells;
        short = let all = reply_length frame.tag (reply_of r) in let few =
            a.answer.1.fits.short in omega arith;
        outcome = a.answer.0;
      }

      pub answered_sent : (res : Result (Unit {0}) WireError)
          → IsSent (reply_frame frame.tag (reply_of r)) w1 w2 out1 out2 res
          → Handled old new l0 l1 w0 w2 in0 in1 out0 out2 res
      answered_sent (Ok x) s = record {
        answer = (
          (read.frame.0, s.sent.1 ∙ room),
          (
            reply_frame frame.tag (reply_of r),
            kept_appends w0 w1
                w2 _ kept s.sent.0,
            replied,
          ),
        );
      }
      answered_sent (Err Write) s = record {
        answer = (
          read.frame.0,
          subst (λ (n : ℕ). Faulted n out2) room s.sent.1,
          (
            reply_frame frame.tag (reply_of r),
            (s.sent.0.0, kept_appends w0 w1 w2 _ kept s.sent.0.1),
            replied,
          ),
        );
      }
      answered_sent (Err InvalidInput) s = absurd s.sent
      answered_sent (Err InvalidData) s = absurd s.sent
      answered_sent (Err UnexpectedEof) s = absurd s.sent
      answered_sent (Err Read) s = absurd s.sent
      answered_sent (Err NoMemory) s = absurd s.sent
