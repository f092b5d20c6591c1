-- What a parser still gives, and what one call gives of it.
use Rattle.std.specs.Prelude.{◌≡◌, ℕ, ◌<◌, List, [], ◌∷◌, length, Option, Some, None, IfSome}
use Rattle.std.specs.Prelude.{Result, Ok, Err}
use Rattle.std.specs.Borrow.{Bor}
use Rattle.std.specs.List.{filter_map}
use Rattle.libmount.specs.declared.mountinfo.errors.ParseError.{ParseError}
use Rattle.libmount.specs.declared.mountinfo.errors.ParseError.TheVariants.{Row, NoMemory}
use Rattle.libmount.specs.declared.mountinfo.parsing.Parser.{Parser}
use Rattle.libmount.specs.declared.mountinfo.rows.MountPoint.{MountPoint}
use Rattle.libmount.specs.Items.{Item, item_of, lines_left}
use Rattle.libmount.specs.Slices.{RowLiesIn, StaysIn}
use Rattle.libmount.specs.Views.{refused_view, row_view}

-- what the lines that are left say
abbrev pub items_left : Parser → List Item
items_left parser = filter_map item_of (lines_left parser.lines)

-- the first of the items goes; nothing is said of what is left after it is out of memory
abbrev pub TakesItem : List Item → Option (Result MountPoint ParseError) → List Item → Type 0
TakesItem old None new = (old ≡ []) × (new ≡ [])
TakesItem old (Some (Ok m)) new = old ≡ Ok (row_view m) ∷ new
TakesItem old (Some (Err (Row e))) new = old ≡ Err (refused_view e) ∷ new
TakesItem old (Some (Err NoMemory)) new = 0 < length old

-- one call of a parser: the first of the items, or none where none is left; running out of memory
-- ends it
abbrev pub GivesNext : List Item → Option (Result MountPoint ParseError) → List Item → Type 0
GivesNext old None new = (old ≡ []) × (new ≡ [])
GivesNext old (Some (Ok m)) new = old ≡ Ok (row_view m) ∷ new
GivesNext old (Some (Err (Row e))) new = old ≡ Err (refused_view e) ∷ new
GivesNext old (Some (Err NoMemory)) new = (0 < length old) × (new ≡ [])

-- the text that is left
abbrev pub text_left : Parser → Option (Bor (List ℕ))
text_left parser = parser.lines.rest

-- each field of an item that is borrowed lies in the text
abbrev pub ItemLiesIn : Bor (List ℕ) → Result MountPoint ParseError → Type 0
ItemLiesIn text (Ok m) = RowLiesIn text m
ItemLiesIn text (Err e) = Unit {0}

abbrev pub ItemLiesInRest : Option (Bor (List ℕ)) → Result MountPoint ParseError → Type 0
ItemLiesInRest None item = ⊥
ItemLiesInRest (Some text) item = ItemLiesIn text item

-- one call of a parser: it gives the next item, whose borrowed fields lie in the text that was
-- left, as the text that is left now does
pub record NextItem (old : Parser) (found : Option (Result MountPoint ParseError))
    (new : Parser) : Type 0 where
  pub gives : GivesNext (items_left old) found (items_left new)
  pub parts : IfSome found (ItemLiesInRest (text_left old))
  pub text : StaysIn (text_left old) (text_left new)
