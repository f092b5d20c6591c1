-- The cut of frames one after another, and of what follows them.
use Rattle.std.proofs.Common.{◌≡◌, ℕ, zero, suc, ◌+◌, ◌<◌, Bool, true, false, cond, nat_lt, List}
use Rattle.std.proofs.Common.{[], ◌∷◌, ◌++◌, length, take, drop, refl, ap, ◌∙◌, append_assoc}
use Rattle.std.proofs.Common.{ne_eqb, arith}
use Rattle.std.specs.List.{concat}
use Rattle.fuse_wire.specs.Fields.{u32_at}
use Rattle.fuse_wire.specs.Cuts.{Cut, front, is_allowed, IsFrame, AreFrames, cut, cut_spent, ends}
use Rattle.fuse_wire.specs.Cuts.{with_frame}
use Rattle.fuse_wire.specs.Cuts.Front.{nothing, part, odd_length, whole}
use Rattle.fuse_wire.specs.Cuts.End.{done, turns_spent, torn, bad_length}
use Rattle.fuse_wire.proofs.Fronts.{front-whole}

abbrev pub with_frames : List (List ℕ) → Cut → Cut
with_frames frames c = record { frames = frames ++ c.frames; end = c.end }

cut-whole : (turns : ℕ) (frame rest : List ℕ) → IsFrame frame → cut (suc turns) (frame ++ rest)
    ≡ with_frame frame (cut turns rest)
unfolding cut
cut-whole turns frame rest h = rw (front-whole frame rest h) refl

-- whole frames come first in the cut, and the rest is cut with the turns that are left
pub cut-frames : (frames : List (List ℕ)) (turns : ℕ) (rest : List ℕ) → AreFrames frames
    → cut (length frames + turns) (concat frames ++ rest) ≡ with_frames frames (cut turns rest)
cut-frames [] turns rest h = let e : 0 + turns ≡ turns = omega arith in rw e refl
cut-frames (frame ∷ frames) turns rest h =
    let n : length (frame ∷ frames) + turns ≡ suc (length frames + turns) = omega arith in
    ap (λ (m : ℕ). cut m (concat (frame ∷ frames) ++ rest)) n
    ∙ ap (cut (suc (length frames + turns))) (append_assoc frame (concat frames) rest)
    ∙ cut-whole (length frames + turns) frame (concat frames ++ rest) h.0
    ∙ ap (with_frame frame) (cut-frames frames turns rest h.1)

spent_by_tests : (few allowed short : Bool) (frame rest : List ℕ)
    → cut_spent (cond few part (cond allowed (cond short part (whole frame rest)) odd_length))
    ≡ ends turns_spent
spent_by_tests true allowed short frame rest = refl
spent_by_tests false false short frame rest = refl
spent_by_tests false true true frame rest = refl
spent_by_tests false true false frame rest = refl

-- without a turn, whatever follows ends the cut
pub cut-spent : (bytes : List ℕ) → 0 < length bytes → cut 0 bytes ≡ ends turns_spent
unfolding cut front
cut-spent bytes some =
    rw (ne_eqb (length bytes) 0 (omega arith))
    (spent_by_tests (nat_lt (length bytes) 4) (is_allowed (u32_at bytes 0))
    (nat_lt (length bytes) (u32_at bytes 0)) (take (u32_at bytes 0) bytes)
    (drop (u32_at bytes 0) bytes))

pub cut-nothing : (turns : ℕ) (bytes : List ℕ) → front bytes ≡ nothing → cut turns bytes ≡ ends done
unfolding cut
cut-nothing zero bytes at = rw at refl
cut-nothing (suc turns) bytes at = rw at refl

pub cut-part : (turns : ℕ) (bytes : List ℕ) → 0 < turns → front bytes ≡ part → cut turns bytes
    ≡ ends torn
unfolding cut
cut-part zero bytes some at = absurd (omega arith)
cut-part (suc turns) bytes some at = rw at refl

pub cut-odd_length : (turns : ℕ) (bytes : List ℕ) → 0 < turns → front bytes ≡ odd_length
    → cut turns bytes ≡ ends bad_length
unfolding cut
cut-odd_length zero bytes some at = absurd (omega arith)
cut-odd_length (suc turns) bytes some at = rw at refl
