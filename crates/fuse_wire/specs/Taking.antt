-- What the next frame of a source takes from it.
use Rattle.std.specs.Prelude.{◌≡◌, ℕ, ◌<◌, ◌≤◌, ◌⊎◌, Bool, true, false, List, ◌++◌, length, Option}
use Rattle.std.specs.Prelude.{IfSome, Result, Ok, Err}
use Rattle.std.specs.Io.KnownBytes.{Consumes, IsAtEnd}
use Rattle.port_base.specs.Faults.{Faulted}
use Rattle.port_base.specs.Streams.{TookFewer, TookExactly}
use Rattle.fuse_wire.specs.Fields.{u32_at}
use Rattle.fuse_wire.specs.Cuts.{IsFrame, is_allowed, Front, front}
use Rattle.fuse_wire.specs.Cuts.Front.{nothing, part, odd_length}
use Rattle.fuse_wire.specs.declared.frames.Next.{Next}
use Rattle.fuse_wire.specs.declared.frames.Next.TheVariants as next
use Rattle.fuse_wire.specs.declared.frames.NextError.{NextError}
use Rattle.fuse_wire.specs.declared.frames.NextError.TheVariants as next_error

-- fewer bytes than a frame has
abbrev pub IsPart : List ℕ → Type 0
IsPart taken = (length taken < 4) ⊎ ((4 ≤ length taken) × (is_allowed (u32_at taken 0) ≡ true)
    × (length taken < u32_at taken 0))

abbrev pub TookPart : Option (List ℕ) → Option (List ℕ) → Type 0
TookPart old new = (taken : List ℕ) × Consumes old new taken × IsPart taken

-- this stands at the front, where the bytes are told
abbrev pub Stands : Option (List ℕ) → Front → Type 0
Stands left f = IfSome left (λ bytes. front bytes ≡ f)

-- what taking a frame takes, by its answer
abbrev pub Takes : Option (List ℕ) → Option (List ℕ) → ℕ → ℕ → List ℕ → Result Next NextError
    → Type 0
Takes left0 left1 faults0 faults1 frame (Ok next.Frame) = (faults1 ≡ faults0) × IsFrame frame
    × Consumes left0 left1 frame
Takes left0 left1 faults0 faults1 frame (Ok next.AtEnd) = (faults1 ≡ faults0)
    × Stands left0 nothing × IsAtEnd left1
Takes left0 left1 faults0 faults1 frame (Ok next.Part) = (faults1 ≡ faults0) × Stands left0 part
    × IsAtEnd left1
Takes left0 left1 faults0 faults1 frame (Ok next.OddLength) = (faults1 ≡ faults0)
    × Stands left0 odd_length × TookExactly left0 left1 4
Takes left0 left1 faults0 faults1 frame (Err next_error.Read) = Faulted faults0 faults1
    × TookPart left0 left1
Takes left0 left1 faults0 faults1 frame (Err next_error.NoMemory) = (faults1 ≡ faults0)
    × TookPart left0 left1

-- so many bytes were taken, and stand behind those that were there
pub record PutsBehind (left0 left1 : Option (List ℕ)) (old new : List ℕ) (count : ℕ) : Type 0 where
  pub taken : List ℕ
  pub consumed : Consumes left0 left1 taken
  pub behind : new ≡ old ++ taken
  pub number : length taken ≡ count

-- what one piece of a frame takes, by its answer: how many bytes there were
abbrev pub TakesPiece : Option (List ℕ) → Option (List ℕ) → ℕ → ℕ → List ℕ → List ℕ → ℕ
    → Result ℕ NextError → Type 0
TakesPiece left0 left1 faults0 faults1 old new count (Ok n) = (faults1 ≡ faults0) × (n ≤ count)
    × PutsBehind left0 left1 old new n × (n < count → IsAtEnd left1)
TakesPiece left0 left1 faults0 faults1 old new count (Err next_error.Read) =
    Faulted faults0 faults1 × TookFewer left0 left1 count
TakesPiece left0 left1 faults0 faults1 old new count (Err next_error.NoMemory) =
    (faults1 ≡ faults0) × TookFewer left0 left1 count

-- what the missing bytes of a frame take, by the answer: whether all were there
abbrev pub Fills : Option (List ℕ) → Option (List ℕ) → ℕ → ℕ → List ℕ → List ℕ → ℕ
    → Result Bool NextError → Type 0
Fills left0 left1 faults0 faults1 old new missing (Ok true) = (faults1 ≡ faults0)
    × PutsBehind left0 left1 old new missing
Fills left0 left1 faults0 faults1 old new missing (Ok false) = (faults1 ≡ faults0)
    × TookFewer left0 left1 missing × IsAtEnd left1
Fills left0 left1 faults0 faults1 old new missing (Err next_error.Read) = Faulted faults0 faults1
    × TookFewer left0 left1 missing
Fills left0 left1 faults0 faults1 old new missing (Err next_error.NoMemory) = (faults1 ≡ faults0)
    × TookFewer left0 left1 missing
