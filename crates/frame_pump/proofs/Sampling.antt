-- Counts of a session and the first frames of an input, on small ones.
use Rattle.std.proofs.Common.{[], ◌∷◌, ◌++◌, ap, Some, arith}
use Rattle.std.specs.Prelude.{take}
use Rattle.fuse_wire.specs.Samples.{least}
use Rattle.fuse_wire.proofs.Sampling.{ends_done, ends_spent}
use Rattle.frame_pump.specs.Sessions.{Counted}
use Rattle.frame_pump.specs.Turns.{AreFirst}

pub not_less : Counted 2 3 4 → ⊥
not_less h = absurd (omega (arith, h))

pub first_frame : AreFirst (Some (least ++ least)) 9 (least ∷ [])
first_frame = ap (λ c. take 1 c.frames) ends_done

pub first_of_one_turn : AreFirst (Some (least ++ 1 ∷ [])) 1 (least ∷ [])
first_of_one_turn = ap (λ c. take 1 c.frames) ends_spent
