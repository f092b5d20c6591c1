-- The fid machine on bytes: one frame from the front, the bytes of the reply, and the next state.
use Rattle.std.specs.Prelude.{ℕ, List, Result, Ok, Err}
use Rattle.port_base.specs.declared.errno.TheConstants.{EINVAL}
use Rattle.p9_wire.specs.declared.error.WireError.{WireError}
use Rattle.p9_wire.specs.Reading.{Reads, then_read, give}
use Rattle.p9_tmsg.specs.Messages.{Message}
use Rattle.p9_tmsg.specs.Frames.{frame_within}
use Rattle.p9_rmsg.specs.Replies.{Reply}
use Rattle.p9_rmsg.specs.Frames.{reply_frame}
use Rattle.p9_rmsg.specs.Replies.Reply.{lerror as r_lerror}
use Rattle.fid_model.specs.Fids.{ServerState}
use Rattle.fid_model.specs.Answers.{answer}

-- a malformed body is answered EINVAL, and changes nothing
abbrev pub answer_body : ServerState → Result Message WireError → Reply × ServerState
answer_body s (Ok m) = answer s m
answer_body s (Err fault) = (r_lerror EINVAL, s)

abbrev pub served : ServerState → ℕ × Result Message WireError → List ℕ × ServerState
served s frame = (reply_frame frame.0 (answer_body s frame.1).0, (answer_body s frame.1).1)

-- a frame of 7 bytes to `msize`, and its answer by its tag
abbrev pub serve : ServerState → Reads (List ℕ × ServerState)
serve s = then_read (frame_within s.msize) (λ frame. give (served s frame))
