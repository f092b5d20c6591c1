-- Frames: a size that counts itself, a type, a tag and a message.
use Rattle.std.specs.Prelude.{◌≡◌, ℕ, ◌+◌, ◌-◌, ◌<◌, ◌^◌, List, [], ◌∷◌, ◌++◌, length, take, drop}
use Rattle.std.specs.Prelude.{slice_index, nat_le, ◌&&◌, ◌⊎◌, Result, Ok, Err}
use Rattle.std.specs.declared.option.Option.{Option}
use Rattle.std.specs.Int.{w16, w32, from_le_bytes, to_le_bytes}
use Rattle.p9_wire.specs.declared.error.WireError.{WireError}
use Rattle.p9_wire.specs.declared.error.WireError.TheVariants.{InvalidInput, InvalidData}
use Rattle.p9_wire.specs.declared.error.WireError.TheVariants.{UnexpectedEof, Read, Write, NoMemory}
use Rattle.p9_wire.specs.Reading.{Reads, then_read, give, refuse, fixed_at, bytes_at, IsBytes}
use Rattle.p9_wire.specs.Reading.{Found, Refused, TookOfFrame}
use Rattle.p9_wire.specs.Texts.{read_if}

-- size 4, type 1, tag 2, and the fields of the message
unfoldable pub frame : (kind tag : ℕ) → List ℕ → List ℕ
frame kind tag body = to_le_bytes w32 (7 + length body) ++ (kind ∷ (to_le_bytes w16 tag ++ body))

-- the message that fills all of the bytes, or the first fault
abbrev pub filling : {M : Type 0} → Result (M × List ℕ) WireError → Result M WireError
filling (Ok (m, [])) = Ok m
filling (Ok (m, b ∷ bs)) = Err InvalidData
filling (Err e) = Err e

-- what stands behind a frame's size: its tag, and what its body is read as
abbrev pub body_of : {M : Type 0} → (ℕ → Reads M) → List ℕ → ℕ × Result M WireError
body_of reading bs = (
  from_le_bytes w16 (take 2 (drop 1 bs)),
  filling
      (reading (slice_index bs 0) (drop 3 bs)),
)

-- so many bytes behind a frame's size, whatever they say
abbrev pub body_reading : {M : Type 0} → (ℕ → Reads M) → ℕ → Reads (ℕ × Result M WireError)
body_reading reading n = then_read (bytes_at n) (λ bs. give (body_of reading bs))

-- a frame of at most so many bytes; it is read to its end, whatever its body is
abbrev pub framed_reading : {M : Type 0} → (ℕ → Reads M) → (limit : ℕ)
    → Reads (ℕ × Result M WireError)
framed_reading reading limit =
    then_read (fixed_at 4 (from_le_bytes w32)) (λ size.
    read_if (nat_le 7 size && nat_le size limit) InvalidData (body_reading reading (size - 4)))

-- a tag and a message, or the fault of the body
abbrev pub settled : {M : Type 0} → ℕ × Result M WireError → Reads (ℕ × M)
settled (tag, Ok m) = give (tag, m)
settled (tag, Err e) = refuse e

-- a frame whose body is well formed
abbrev pub sound_reading : {M : Type 0} → (ℕ → Reads M) → (limit : ℕ) → Reads (ℕ × M)
sound_reading reading limit = then_read (framed_reading reading limit) settled

abbrev pub FrameSpells : {M : Type 0} → (M → Type 0) → (M → List ℕ) → ℕ × M → Type 0
FrameSpells S s f = (f.0 < 2 ^ 16) × (S f.1 × (7 + length (s f.1) < 2 ^ 32))

abbrev pub frame_spelling : {M : Type 0} → (M → ℕ) → (M → List ℕ) → ℕ × M → List ℕ
frame_spelling kind_of s f = frame (kind_of f.1) f.0 (s f.1)

-- a fact of a tag and a message, which a malformed body doesn't have
abbrev pub IsWhole : {M : Type 0} → (ℕ × M → Type 0) → ℕ × Result M WireError → Type 0
IsWhole P (tag, Ok m) = P (tag, m)
IsWhole P (tag, Err e) = ⊥

-- the bytes of a tag and a message; a malformed body has none
abbrev pub whole_spelling : {M : Type 0} → (ℕ × M → List ℕ) → ℕ × Result M WireError → List ℕ
whole_spelling s (tag, Ok m) = s (tag, m)
whole_spelling s (tag, Err e) = []

abbrev pub result_view : {V M : Type 0} → (V → M) → Result V WireError → Result M WireError
result_view view (Ok m) = Ok (view m)
result_view view (Err e) = Err e

abbrev pub framed_view : {V M : Type 0} → (V → M) → ℕ × Result V WireError → ℕ × Result M WireError
framed_view view f = (f.0, result_view view f.1)

-- Messages of many types: what is read behind a type is spelled so, and no spelling begins another
-- of its type.
pub record LawfulMessages {M : Type 0} (kind_of : M → ℕ) (Spells : M → Type 0)
    (spelling : M → List ℕ) (IsReadable : M → Type 0) (reading : ℕ → Reads M) : Type 0 where
  pub takes : (kind : ℕ) (xs rest : List ℕ) (m : M) → IsBytes xs → reading kind xs ≡ Ok (m, rest)
      → (kind_of m ≡ kind) × ((xs ≡ spelling m ++ rest) × Spells m × IsReadable m)
  pub again : (m : M) (rest : List ℕ) → Spells m → IsReadable m
      → reading (kind_of m) (spelling m ++ rest) ≡ Ok (m, rest)
  pub unique : (m n : M) (x y : List ℕ) → Spells m → Spells n → kind_of m ≡ kind_of n → spelling m
      ++ x ≡ spelling n ++ y → m ≡ n

abbrev pub sound_view : {V M : Type 0} → (V → M) → ℕ × V → ℕ × M
sound_view view f = (f.0, view f.1)

-- what a malformed body is told by
abbrev pub IsMalformed : WireError → Type 0
IsMalformed InvalidInput = Unit {0}
IsMalformed InvalidData = Unit {0}
IsMalformed UnexpectedEof = Unit {0}
IsMalformed Read = ⊥
IsMalformed Write = ⊥
IsMalformed NoMemory = ⊥

-- the frame itself has the fault, or it was read to its end and its body has it
abbrev pub HasFault : {M : Type 0} → (ℕ → Reads M) → (limit : ℕ) → Option (List ℕ)
    → Option (List ℕ) → WireError → Type 0
HasFault reading limit old new e =
    (Refused (framed_reading reading limit) old e × TookOfFrame old new e)
    ⊎ ((tag : ℕ) × Found (framed_reading reading limit) old new (tag, Err e))

-- after a fault of the body the source is at the frame's end, and after one of the frame itself the
-- size was taken, or all bytes
abbrev pub Drains : {M : Type 0} → (ℕ → Reads M) → (limit : ℕ) → Option (List ℕ) → Option (List ℕ)
    → WireError → Type 0
Drains reading limit old new InvalidInput = HasFault reading limit old new InvalidInput
Drains reading limit old new InvalidData = HasFault reading limit old new InvalidData
Drains reading limit old new UnexpectedEof = HasFault reading limit old new UnexpectedEof
Drains reading limit old new Read = Unit {0}
Drains reading limit old new Write = Unit {0}
Drains reading limit old new NoMemory = Unit {0}
