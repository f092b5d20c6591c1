-- What the rows of a table say, in order.
use Rattle.std.specs.Prelude.{ℕ, ◌+◌, List, [], ◌∷◌, length, Option, Some, None, Result, Ok, Err}
use Rattle.std.specs.Prelude.{IfSome, option_copied}
use Rattle.std.specs.Borrow.{Bor}
use Rattle.std.specs.Iterator.{YieldsFirstBy}
use Rattle.std.specs.List.{filter_map}
use Rattle.libmount.specs.declared.mountinfo.lines.Lines.{Lines}
use Rattle.libmount.specs.Cuts.{Placed}
use Rattle.libmount.specs.Parts.{parts}
use Rattle.libmount.specs.Slices.{LiesInRest, StaysIn, placed}
use Rattle.libmount.specs.Reading.{Message}
use Rattle.libmount.specs.Rows.{Row, row}

abbrev pub line_feed : ℕ
line_feed = 10

-- a line's number, the place where it begins, and its bytes
abbrev pub Line : Type 0
Line = ℕ × Placed

-- Lines with their numbers, where so many line feeds stand before them: one that a line feed ends
-- counts it, and the last doesn't. The first begins at the place, and each other one behind the
-- line feed before it.
abbrev pub numbered : ℕ → ℕ → List (List ℕ) → List Line
numbered before place [] = []
numbered before place (line ∷ []) = (before, (place, line)) ∷ []
numbered before place (line ∷ next ∷ lines) =
    (before + 1, (place, line)) ∷ numbered (before + 1) (place + (length line + 1)) (next ∷ lines)

-- the lines of a text with their numbers
unfoldable pub lines : Placed → List Line
lines text = numbered 0 text.0 (parts line_feed (Some text.1))

-- a row that is refused
pub record Refused : Type 0 where
  pub message : Message
  pub number : ℕ
  pub row : List ℕ

-- what a line says, where it isn't passed over
abbrev pub Item : Type 0
Item = Result Row Refused

abbrev pub item_by : Line → Result (Option Row) Message → Option Item
item_by line (Ok None) = None
item_by line (Ok (Some fields)) = Some (Ok fields)
item_by line (Err message) =
    Some (Err (record { message = message; number = line.0; row = line.1.1 }))

unfoldable pub item_of : Line → Option Item
item_of line = item_by line (row line.1)

-- what the rows of a table say, in order
unfoldable pub items : Placed → List Item
items text = filter_map item_of (lines text)

-- the address of a slice, where there is one
abbrev pub place_of : Option (Bor (List ℕ)) → ℕ
place_of None = 0
place_of (Some slice) = slice.ref_ptr.1

-- the lines that are still to come
abbrev pub lines_left : Lines → List Line
lines_left left =
    numbered left.line_feeds (place_of left.rest) (parts line_feed (option_copied left.rest))

abbrev pub numbered_line : ℕ × Bor (List ℕ) → Line
numbered_line line = (line.0, placed line.1)

-- one call of the iterator: the first line goes, and lies in the text that was left, as what is
-- left now does
pub record NextLine (old : Lines) (found : Option (ℕ × Bor (List ℕ))) (new : Lines) : Type 0 where
  pub gives : YieldsFirstBy numbered_line lines_left old found new
  pub part : IfSome found (λ line. LiesInRest old.rest line.1)
  pub rest : StaysIn old.rest new.rest
