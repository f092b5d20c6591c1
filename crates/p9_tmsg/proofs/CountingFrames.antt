-- A loop that reads frames until one is refused counts them.
use Rattle.std.proofs.Common.{◌≡◌, ◌≢◌, ℕ, suc, ◌+◌, ◌<◌, ◌≤◌, ◌-◌, ◌^◌, List, [], ◌∷◌, ◌++◌}
use Rattle.std.proofs.Common.{length, Result, Ok, Err, Some, refl, subst, arith}
use Rattle.std.specs.declared.option.Option.{Option}
use Rattle.p9_wire.specs.declared.error.WireError.{WireError}
use Rattle.p9_wire.specs.declared.error.WireError.TheVariants.{InvalidInput, InvalidData}
use Rattle.p9_wire.specs.declared.error.WireError.TheVariants.{UnexpectedEof, Read, Write, NoMemory}
use Rattle.p9_wire.specs.Reading.{Answers}
use Rattle.p9_wire.specs.Items.{times}
use Rattle.p9_wire.specs.Counting.{times_more, framed_shrinks}
use Rattle.p9_tmsg.specs.declared.frame.Tframe.{Tframe}
use Rattle.p9_tmsg.specs.Messages.{Message, message_reading}
use Rattle.p9_tmsg.specs.Frames.{frame_of, frame_reading}
use Rattle.p9_tmsg.specs.Counting.{HasFrames}

-- n frames were read, and these bytes are left
pub record Counted (bytes left : List ℕ) (n : ℕ) : Type 0 where
  pub frames : List (ℕ × Result Message WireError)
  pub read : times frame_reading n bytes ≡ Ok (frames, left)
  pub within : n + length left ≤ length bytes

pub Counted-nothing : (bytes : List ℕ) → Counted bytes bytes 0
unfolding times
Counted-nothing bytes = record { frames = []; read = refl; within = omega arith }

pub Counted-more : (bytes left rest : List ℕ) (n : ℕ) (f : Tframe) → Counted bytes left n
    → Answers frame_of frame_reading (Some left) (Some rest) 0 0 (Ok f)
    → Counted bytes rest (n + 1)
Counted-more bytes left rest n f c a =
    let shorter = framed_shrinks message_reading (2 ^ 32 - 1) left rest (frame_of f) a.1 in
    let now = c.frames ++ frame_of f ∷ [] in
    let one : suc n ≡ n + 1 = omega arith in
    record {
      frames = now;
      read = subst (λ (m : ℕ). times frame_reading m bytes ≡ Ok (now, rest)) one
          (times_more frame_reading n bytes left rest c.frames (frame_of f) c.read a.1);
      within = omega (arith, shorter, c.within);
    }

pub left_shrinks : (left rest : List ℕ) (f : Tframe)
    → Answers frame_of frame_reading (Some left) (Some rest) 0 0 (Ok f) → length rest < length left
left_shrinks left rest f a = omega (
  arith,
  framed_shrinks message_reading (2 ^ 32 - 1) left rest
      (frame_of f) a.1,
)

pub Counted-ends : (bytes left : List ℕ) (new : Option (List ℕ)) (n : ℕ) (e : WireError)
    → Counted bytes left n → e ≢ NoMemory → Answers frame_of frame_reading (Some left) new 0 0
    (Err e) → HasFrames bytes n
Counted-ends bytes left new n InvalidInput c ne a =
    record { frames = c.frames; rest = left; read = c.read; fault = InvalidInput; refused = a.1 }
Counted-ends bytes left new n InvalidData c ne a =
    record { frames = c.frames; rest = left; read = c.read; fault = InvalidData; refused = a.1 }
Counted-ends bytes left new n UnexpectedEof c ne a =
    record { frames = c.frames; rest = left; read = c.read; fault = UnexpectedEof; refused = a.1 }
Counted-ends bytes left new n Read c ne a = absurd (omega (arith, a.0, a.1))
Counted-ends bytes left new n Write c ne a = absurd a
Counted-ends bytes left new n NoMemory c ne a = absurd (ne refl)
