-- The frames at the front of a buffer.
use Rattle.std.specs.Prelude.{◌≡◌, ℕ, List, Result, Ok, Err}
use Rattle.p9_wire.specs.declared.error.WireError.{WireError}
use Rattle.p9_wire.specs.Items.{times}
use Rattle.p9_tmsg.specs.Messages.{Message}
use Rattle.p9_tmsg.specs.Frames.{frame_reading}

-- n frames are read one after another, and what follows them is refused
pub record HasFrames (bytes : List ℕ) (n : ℕ) : Type 0 where
  pub frames : List (ℕ × Result Message WireError)
  pub rest : List ℕ
  pub read : times frame_reading n bytes ≡ Ok (frames, rest)
  pub fault : WireError
  pub refused : frame_reading rest ≡ Err fault
