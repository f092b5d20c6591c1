-- Reading from left to right, where a refusal is its message.
use Rattle.std.specs.Prelude.{◌≡◌, ℕ, List, ◌++◌, length, Result, Ok, Err, ◌==◌, if◌then◌else◌}
use Rattle.std.specs.Prelude.{codes}
use Rattle.port_base.specs.Quoting.{quoted}
use Rattle.libmount.specs.declared.mountinfo.numbers.NumberFault.{NumberFault}
use Rattle.libmount.specs.declared.mountinfo.numbers.NumberFault.TheVariants.{Empty, InvalidDigit}
use Rattle.libmount.specs.declared.mountinfo.numbers.NumberFault.TheVariants.{TooLarge}
use Rattle.libmount.specs.declared.mountinfo.refusals.Refusal.{Refusal}
use Rattle.libmount.specs.declared.mountinfo.refusals.Refusal.TheVariants.{MoreFields, Number}
use Rattle.libmount.specs.declared.mountinfo.refusals.Refusal.TheVariants.{NoMemory}
use Rattle.libmount.specs.Cuts.{Placed, cut_at, last_of, without_leading_spaces}

abbrev pub Message : Type 0
Message = List ℕ

infixl 10 ◌>>=◌
abbrev pub ◌>>=◌ : {A B : Type 0} → Result A Message → (A → Result B Message) → Result B Message
(Ok x) >>= f = f x
(Err e) >>= f = Err e

-- fields are missing
abbrev pub more_fields : Message
more_fields = codes "Expected more fields"

abbrev pub fault_text : NumberFault → List ℕ
fault_text Empty = codes "empty"
fault_text InvalidDigit = codes "invalid digit"
fault_text TooLarge = codes "number too large"

-- a field is no number
unfoldable pub bad_number : List ℕ → NumberFault → Message
bad_number field fault = codes "Cannot parse integer "
    ++ (quoted field ++ (codes ": " ++ fault_text fault))

-- a field up to a mark, after leading spaces, and what follows the mark
unfoldable pub field_at : List ℕ → Placed → Result (Placed × Placed) Message
field_at mark part = if length part.1 == 0 then Err more_fields
    else Ok (cut_at mark (last_of part (without_leading_spaces part.1)))

-- the code's refusal is the reading's, unless memory ran out
abbrev pub Fails : {Y : Type 0} → Refusal → Result Y Message → Type 0
Fails NoMemory read = Unit {0}
Fails MoreFields read = read ≡ Err more_fields
Fails (Number field fault) read = read ≡ Err (bad_number field.now fault)

-- what a function returned, seen by view, is what reading gives, unless memory ran out
abbrev pub Gives : {X Y : Type 0} → (X → Y) → Result X Refusal → Result Y Message → Type 0
Gives view (Ok x) read = read ≡ Ok (view x)
Gives view (Err e) read = Fails e read
