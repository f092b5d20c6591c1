-- Reading values from the front of bytes, and what a decoder says of it.
use Rattle.std.specs.Prelude.{◌≡◌, ℕ, ◌<◌, List, ◌++◌, length, take, drop, Result, Ok, Err, nat_lt}
use Rattle.std.specs.Prelude.{if◌then◌else◌, ⊤, None, Some, slice_index}
use Rattle.std.specs.declared.option.Option.{Option}
use Rattle.std.specs.Io.KnownBytes.{Consumes, IsAtEnd}
use Rattle.port_base.specs.Faults.{Faulted}
use Rattle.port_base.specs.Streams.{TookExactly, TookAll}
use Rattle.p9_wire.specs.declared.error.WireError.{WireError}
use Rattle.p9_wire.specs.declared.error.WireError.TheVariants.{InvalidInput, InvalidData}
use Rattle.p9_wire.specs.declared.error.WireError.TheVariants.{UnexpectedEof, Read, Write, NoMemory}

-- what reading gives: the value and the bytes after it, or the first fault
abbrev pub Reads : Type 0 → Type 0
Reads A = List ℕ → Result (A × List ℕ) WireError

infixl 10 ◌>>=◌
abbrev pub ◌>>=◌ : {A B : Type 0} → Result A WireError → (A → Result B WireError)
    → Result B WireError
(Ok x) >>= f = f x
(Err e) >>= f = Err e

-- one reading after another
abbrev pub then_read : {A B : Type 0} → Reads A → (A → Reads B) → Reads B
then_read r g = λ xs. r xs >>= λ x. g x.0 x.1

abbrev pub give : {A : Type 0} → A → Reads A
give x = λ xs. Ok (x, xs)

abbrev pub refuse : {A : Type 0} → WireError → Reads A
refuse e = λ xs. Err e

abbrev pub bytes_at : ℕ → Reads (List ℕ)
bytes_at n xs = if nat_lt (length xs) n then Err UnexpectedEof else Ok (take n xs, drop n xs)

-- a number in len bytes
abbrev pub fixed_at : ℕ → (List ℕ → ℕ) → Reads ℕ
fixed_at len from = then_read (bytes_at len) (λ bs. give (from bs))

abbrev pub IsBytes : List ℕ → Type 0
IsBytes bytes = (i : ℕ) → slice_index bytes i < 256

-- what holds of every value
abbrev pub Always : {P : Type 0} → P → Type 0
Always p = Unit {0}

-- Spelling and reading are each other's inverse, and no spelling begins another.
pub record Lawful {P : Type 0} (Spells : P → Type 0) (spelling : P → List ℕ)
    (IsSound IsReadable : P → Type 0) (reading : Reads P) : Type 0 where
  -- a sound value is read where its spelling stands, and nowhere else
  pub takes : (xs rest : List ℕ) (p : P) → IsBytes xs → reading xs ≡ Ok (p, rest) → IsSound p
      → (xs ≡ spelling p ++ rest) × Spells p × IsReadable p
  -- what is spelled so is read, whatever follows
  pub again : (p : P) (rest : List ℕ) → Spells p → IsReadable p → reading (spelling p ++ rest)
      ≡ Ok (p, rest)
  -- no spelling begins another, and different values have different ones
  pub unique : (p q : P) (x y : List ℕ) → Spells p → Spells q → spelling p ++ x ≡ spelling q ++ y
      → p ≡ q

-- ---- what a decoder did

abbrev pub Took : Option (List ℕ) → Option (List ℕ) → Type 0
Took old new = (taken : List ℕ) × Consumes old new taken

-- known bytes were read as this value, and the rest is left
abbrev pub Found : {P : Type 0} → Reads P → Option (List ℕ) → Option (List ℕ) → P → Type 0
Found r None new p = ⊤
Found r (Some xs) None p = ⊥
Found r (Some xs) (Some ys) p = r xs ≡ Ok (p, ys)

-- known bytes are refused for this fault
abbrev pub Refused : {P : Type 0} → Reads P → Option (List ℕ) → WireError → Type 0
Refused r None e = ⊤
Refused r (Some xs) e = r xs ≡ Err e

-- what a decoder's answer says
abbrev pub Answers : {V P : Type 0} → (V → P) → Reads P → Option (List ℕ) → Option (List ℕ) → ℕ → ℕ
    → Result V WireError → Type 0
Answers view r old new before now (Ok v) = (now ≡ before) × Found r old new (view v)
Answers view r old new before now (Err InvalidInput) = (now ≡ before) × Refused r old InvalidInput
Answers view r old new before now (Err InvalidData) = (now ≡ before) × Refused r old InvalidData
Answers view r old new before now (Err UnexpectedEof) = (now ≡ before) × Refused r old UnexpectedEof
Answers view r old new before now (Err Read) = Faulted before now
Answers view r old new before now (Err Write) = ⊥
Answers view r old new before now (Err NoMemory) = now ≡ before

pub record Decodes {V P : Type 0} (view : V → P) (r : Reads P) (old new : Option (List ℕ))
    (before now : ℕ) (result : Result V WireError) : Type 0 where
  pub took : Took old new
  pub answer : Answers view r old new before now result

-- why a told number of bytes didn't come: the source ended, it failed, or memory was missing
abbrev pub EndsShort : Option (List ℕ) → WireError → Type 0
EndsShort new UnexpectedEof = IsAtEnd new
EndsShort new Read = Unit {0}
EndsShort new NoMemory = Unit {0}
EndsShort new _ = ⊥

-- what was taken of a frame that has this fault: the four bytes of a size that no frame has, or all
-- bytes where the source ends within it
abbrev pub TookOfFrame : Option (List ℕ) → Option (List ℕ) → WireError → Type 0
TookOfFrame old new InvalidData = TookExactly old new 4
TookOfFrame old new UnexpectedEof = TookAll old new
TookOfFrame old new Read = Unit {0}
TookOfFrame old new NoMemory = Unit {0}
TookOfFrame old new _ = ⊥
