-- The cut of the input into frames.
use Rattle.std.specs.Prelude.{◌≡◌, ℕ, zero, suc, Bool, true, ◌&&◌, nat_le, nat_lt, ◌==◌}
use Rattle.std.specs.Prelude.{if◌then◌else◌, List, [], ◌∷◌, length, take, drop}
use Rattle.fuse_wire.specs.declared.frames.TheConstants.{FRAME_LIMIT}
use Rattle.fuse_wire.specs.declared.head.TheConstants.{IN_HEADER_SIZE}
use Rattle.fuse_wire.specs.Fields.{u32_at}

-- a length that a frame may have
unfoldable pub is_allowed : ℕ → Bool
is_allowed len = nat_le IN_HEADER_SIZE len && nat_le len FRAME_LIMIT

-- one whole frame: its first four bytes tell its length, which is allowed
pub record IsFrame (frame : List ℕ) : Type 0 where
  pub allowed : is_allowed (length frame) ≡ true
  pub tells : u32_at frame 0 ≡ length frame

abbrev pub AreFrames : List (List ℕ) → Type 0
AreFrames [] = Unit {0}
AreFrames (frame ∷ frames) = IsFrame frame × AreFrames frames

-- what stands at the front of some bytes
pub data Front : Type 0 where
  nothing : Front
  part : Front
  odd_length : Front
  whole : (frame rest : List ℕ) → Front

-- a length and the bytes that it is told in
abbrev pub front_of_length : List ℕ → ℕ → Front
front_of_length bytes len =
    if is_allowed len then (if nat_lt (length bytes) len then part else whole (take len bytes)
    (drop len bytes)) else odd_length

-- nothing; a part of a frame; a length that isn't allowed; or a whole frame and the rest
unfoldable pub front : List ℕ → Front
front bytes =
    if length bytes == 0 then nothing else
    if nat_lt (length bytes) 4 then part else front_of_length bytes (u32_at bytes 0)

-- why a cut takes no more frames
pub data End : Type 0 where
  done : End
  turns_spent : End
  torn : End
  bad_length : End

pub record Cut : Type 0 where
  pub frames : List (List ℕ)
  pub end : End

abbrev pub ends : End → Cut
ends e = record { frames = []; end = e }

abbrev pub with_frame : List ℕ → Cut → Cut
with_frame frame c = record { frames = frame ∷ c.frames; end = c.end }

-- the cut by what stands at the front; more cuts the rest
abbrev pub cut_by : Front → (List ℕ → Cut) → Cut
cut_by nothing more = ends done
cut_by part more = ends torn
cut_by odd_length more = ends bad_length
cut_by (whole frame rest) more = with_frame frame (more rest)

-- the cut where no turn is left
abbrev pub cut_spent : Front → Cut
cut_spent nothing = ends done
cut_spent part = ends turns_spent
cut_spent odd_length = ends turns_spent
cut_spent (whole frame rest) = ends turns_spent

-- whole frames from the front, at most so many, and the end
unfoldable pub cut : ℕ → List ℕ → Cut
cut zero bytes = cut_spent (front bytes)
cut (suc turns) bytes = cut_by (front bytes) (λ rest. cut turns rest)
