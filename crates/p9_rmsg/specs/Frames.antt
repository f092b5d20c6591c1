-- Frames with the messages that a server answers.
use Rattle.std.specs.Prelude.{ℕ, ◌-◌, ◌^◌, List}
use Rattle.p9_wire.specs.Reading.{Reads}
use Rattle.p9_wire.specs.Frames.{frame, sound_reading, FrameSpells, frame_spelling}
use Rattle.p9_rmsg.specs.declared.frame.Rframe.{Rframe}
use Rattle.p9_rmsg.specs.Replies.{Reply, reply_of, reply_kind, reply_spelling, ReplySpells}
use Rattle.p9_rmsg.specs.Replies.{IsReadableReply, reply_reading}

-- the message behind its size, type and tag
abbrev pub reply_frame : (tag : ℕ) → Reply → List ℕ
reply_frame tag m = frame (reply_kind m) tag (reply_spelling m)

abbrev pub frame_of : Rframe → ℕ × Reply
frame_of f = (f.tag, reply_of f.msg)

abbrev pub RframeSpells : ℕ × Reply → Type 0
RframeSpells = FrameSpells ReplySpells reply_spelling

abbrev pub rframe_spelling : ℕ × Reply → List ℕ
rframe_spelling = frame_spelling reply_kind reply_spelling

abbrev pub IsReadableRframe : ℕ × Reply → Type 0
IsReadableRframe f = IsReadableReply f.1

-- a frame of at most `limit` bytes whose body is well formed
abbrev pub reply_frame_within : (limit : ℕ) → Reads (ℕ × Reply)
reply_frame_within = sound_reading reply_reading

abbrev pub reply_frame_reading : Reads (ℕ × Reply)
reply_frame_reading = reply_frame_within (2 ^ 32 - 1)
