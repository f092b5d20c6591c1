-- Frames with the messages that a client sends.
use Rattle.std.specs.Prelude.{ℕ, ◌-◌, ◌^◌, List, Result}
use Rattle.p9_wire.specs.declared.error.WireError.{WireError}
use Rattle.p9_wire.specs.Reading.{Reads}
use Rattle.p9_wire.specs.Frames.{frame, framed_reading, result_view, FrameSpells, frame_spelling}
use Rattle.p9_wire.specs.Frames.{IsWhole, whole_spelling}
use Rattle.p9_tmsg.specs.declared.frame.Tframe.{Tframe}
use Rattle.p9_tmsg.specs.Messages.{Message, message_of, message_kind, message_spelling}
use Rattle.p9_tmsg.specs.Messages.{MessageSpells, IsReadableMessage, message_reading}

-- the message behind its size, type and tag
abbrev pub message_frame : (tag : ℕ) → Message → List ℕ
message_frame tag m = frame (message_kind m) tag (message_spelling m)

-- the tag, and the message or the fault of its body
abbrev pub frame_of : Tframe → ℕ × Result Message WireError
frame_of f = (f.tag, result_view message_of f.msg)

-- a frame whose body is malformed has no spelling
abbrev pub TframeSpells : ℕ × Result Message WireError → Type 0
TframeSpells = IsWhole (FrameSpells MessageSpells message_spelling)

abbrev pub tframe_spelling : ℕ × Result Message WireError → List ℕ
tframe_spelling = whole_spelling (frame_spelling message_kind message_spelling)

abbrev pub IsReadableTframe : ℕ × Result Message WireError → Type 0
IsReadableTframe = IsWhole (λ f. IsReadableMessage f.1)

-- a frame of at most `limit` bytes, read to its end whatever its body is
abbrev pub frame_within : (limit : ℕ) → Reads (ℕ × Result Message WireError)
frame_within = framed_reading message_reading

abbrev pub frame_reading : Reads (ℕ × Result Message WireError)
frame_reading = frame_within (2 ^ 32 - 1)
