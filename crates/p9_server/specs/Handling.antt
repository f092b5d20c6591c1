-- What reading one frame for the server gives.
use Rattle.std.specs.Prelude.{◌≡◌, ℕ, List, Result, Ok, Err}
use Rattle.std.specs.declared.option.Option.{Option}
use Rattle.port_base.specs.Faults.{Faulted}
use Rattle.port_base.specs.Streams.{TookExactly, TookAll}
use Rattle.p9_wire.specs.declared.error.WireError.{WireError}
use Rattle.p9_wire.specs.declared.error.WireError.TheVariants.{InvalidInput, InvalidData}
use Rattle.p9_wire.specs.declared.error.WireError.TheVariants.{UnexpectedEof, Read, Write}
use Rattle.p9_wire.specs.declared.error.WireError.TheVariants.{NoMemory}
use Rattle.p9_wire.specs.Reading.{Found, Refused}
use Rattle.p9_tmsg.specs.declared.frame.Tframe.{Tframe}
use Rattle.p9_tmsg.specs.Frames.{frame_of, frame_within}

abbrev pub ReadsBy : ℕ → Option (List ℕ) → Option (List ℕ) → ℕ → ℕ → Result Tframe WireError
    → Type 0
ReadsBy limit l0 l1 f0 f1 (Ok f) = (f1 ≡ f0) × Found (frame_within limit) l0 l1 (frame_of f)
ReadsBy limit l0 l1 f0 f1 (Err InvalidData) =
    (f1 ≡ f0) × Refused (frame_within limit) l0 InvalidData × TookExactly l0 l1 4
ReadsBy limit l0 l1 f0 f1 (Err UnexpectedEof) =
    (f1 ≡ f0) × Refused (frame_within limit) l0 UnexpectedEof × TookAll l0 l1
ReadsBy limit l0 l1 f0 f1 (Err Read) = Faulted f0 f1
ReadsBy limit l0 l1 f0 f1 (Err NoMemory) = f1 ≡ f0
ReadsBy limit l0 l1 f0 f1 (Err InvalidInput) = ⊥
ReadsBy limit l0 l1 f0 f1 (Err Write) = ⊥

-- a frame was read to its end; or its size is at fault, behind whose four bytes nothing was taken;
-- or all bytes were taken, and it ends too early
pub record ReadsFrame (limit : ℕ) (l0 l1 : Option (List ℕ)) (f0 f1 : ℕ)
    (result : Result Tframe WireError) : Type 0 where
  pub frame : ReadsBy limit l0 l1 f0 f1 result
