-- What the calls of a file system tell.
use Rattle.std.specs.Prelude.{⊤, ℕ, List, drop, length, Result, Ok, Err}
use Rattle.fuse_wire.specs.declared.ids.FileHandle.{FileHandle}
use Rattle.fuse_wire.specs.declared.listing.ReplyDirectory.{ReplyDirectory}
use Rattle.fuse_wire.specs.declared.answers.FsFail.{FsFail}
use Rattle.fuse_wire.specs.declared.answers.FsFail.TheVariants.{Errno, NoMemory}

-- where it was told, or refused
abbrev pub OnTold : {A : Type 0} → Result A FsFail → Type 0 → Type 0
OnTold (Ok a) P = P
OnTold (Err (Errno e)) P = P
OnTold (Err NoMemory) P = ⊤

-- where memory was wanted
abbrev pub OnWant : {A : Type 0} → Result A FsFail → Type 0 → Type 0
OnWant (Err NoMemory) P = P
OnWant _ P = ⊤

-- what was told, or the error's number
abbrev pub IfTold : {A : Type 0} → Result A FsFail → (Result A ℕ → Type 0) → Type 0
IfTold (Ok a) P = P (Ok a)
IfTold (Err (Errno e)) P = P (Err e.0)
IfTold (Err NoMemory) P = ⊤

abbrev pub handle_number : FileHandle → ℕ
handle_number handle = handle.0

-- the bytes behind those that were there
abbrev pub rest_of : List ℕ → List ℕ → List ℕ
rest_of before now = drop (length before) now

-- the bytes of a listing's entries
abbrev pub listed_by : ReplyDirectory → List ℕ
listed_by listing = listing.bytes.items
