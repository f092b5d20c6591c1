-- What a line says is the first of the items that are left, where it isn't passed over.
use Rattle.std.proofs.Common.{◌≡◌, ℕ, ◌<◌, List, [], ◌∷◌, length, Option, Some, None, IsSome}
use Rattle.std.proofs.Common.{Result, Ok, Err, refl, ap, ◌∙◌, arith}
use Rattle.std.specs.List.{cons_option, filter_map}
use Rattle.libmount.specs.declared.mountinfo.errors.ParseError.{ParseError}
use Rattle.libmount.specs.declared.mountinfo.errors.ParseError.TheVariants.{Row as ErrorRow}
use Rattle.libmount.specs.declared.mountinfo.errors.ParseError.TheVariants.{NoMemory as OutOfMemory}
use Rattle.libmount.specs.declared.mountinfo.errors.RowFault.{RowFault}
use Rattle.libmount.specs.declared.mountinfo.errors.RowFault.TheVariants.{Row as RefusedRow}
use Rattle.libmount.specs.declared.mountinfo.errors.RowFault.TheVariants.{NoMemory as NoRowMemory}
use Rattle.libmount.specs.declared.mountinfo.rows.MountPoint.{MountPoint}
use Rattle.libmount.specs.Cuts.{Placed}
use Rattle.libmount.specs.Items.{Item, Line, item_by, item_of, items, lines}
use Rattle.libmount.specs.Parsers.{TakesItem}
use Rattle.libmount.specs.Reading.{Message}
use Rattle.libmount.specs.Rows.{Row, row}
use Rattle.libmount.specs.Views.{GivesItem, GivesRow, IsRefused}

module _ (number : ℕ) (line : Placed) where
  pub item-some : (fields : Row) → row line ≡ Ok (Some fields)
      → item_of (number, line) ≡ Some (Ok fields)
  unfolding item_of
  item-some fields h = rw h refl

  pub item-none : row line ≡ Ok None → item_of (number, line) ≡ None
  unfolding item_of
  item-none h = rw h refl

  not-none : (read : Result (Option Row) Message) → (read ≡ Ok None → ⊥)
      → IsSome (item_by (number, line) read)
  not-none (Ok None) h = absurd (h refl)
  not-none (Ok (Some fields)) h = refl
  not-none (Err message) h = refl

  pub item-err : (fault : RowFault) (e : ParseError) → GivesRow (Err fault) (row line)
      → IsRefused fault number line.1 e → GivesItem (Some (Err e)) (item_of (number, line))
  unfolding item_of
  item-err (RefusedRow error) (ErrorRow e) h is = rw (h, is) refl
  item-err (RefusedRow error) OutOfMemory h is = rw h refl
  item-err NoRowMemory (ErrorRow e) h is = absurd is
  item-err NoRowMemory OutOfMemory h is = not-none (row line) h

module _ (all : List Item) (ls : List Line) (line : Line) (rest : List Line)
    (so : all ≡ filter_map item_of ls) (first : ls ≡ line ∷ rest) where
  by_first : all ≡ cons_option (item_of line) (filter_map item_of rest)
  by_first = so ∙ ap (filter_map item_of) first

  by_item : (item : Item) → item_of line ≡ Some item → all ≡ item ∷ filter_map item_of rest
  by_item item h = by_first ∙ ap (λ (found : Option Item). cons_option found
      (filter_map item_of rest)) h

  pub skips-line : GivesItem None (item_of line) → all ≡ filter_map item_of rest
  skips-line h = by_first ∙ ap (λ (found : Option Item). cons_option found
      (filter_map item_of rest)) h

  some-left : (found : Option Item) → IsSome found
      → 0 < length (cons_option found (filter_map item_of rest))
  some-left None h = absurd cc
  some-left (Some item) h = omega arith

  pub takes-line : (item : Result MountPoint ParseError) → GivesItem (Some item) (item_of line)
      → TakesItem all (Some item) (filter_map item_of rest)
  takes-line (Ok m) h = by_item _ h
  takes-line (Err (ErrorRow e)) h = by_item _ h
  takes-line (Err OutOfMemory) h = rw by_first (some-left (item_of line) h)

pub takes-none : (all : List Item) (ls ms : List Line) → all ≡ filter_map item_of ls → ls ≡ []
    → ms ≡ [] → (all ≡ []) × (filter_map item_of ms ≡ [])
takes-none all ls ms so none after = (
  so ∙ ap (filter_map item_of) none,
  ap (filter_map item_of)
      after,
)

pub items-by : (text : Placed) (ls : List Line) → ls ≡ lines text
    → filter_map item_of ls ≡ items text
unfolding items
items-by text ls h = ap (filter_map item_of) h
