-- Parts of a text in memory.
use Rattle.std.specs.Prelude.{◌≡◌, ℕ, ◌+◌, ◌≤◌, List, length, take, drop, Option, Some, None}
use Rattle.std.specs.Borrow.{Bor}
use Rattle.libmount.specs.Cuts.{Placed}
use Rattle.libmount.specs.declared.mountinfo.escapes.Field.{Field}
use Rattle.libmount.specs.declared.mountinfo.escapes.Field.TheVariants.{Borrowed, Owned}
use Rattle.libmount.specs.declared.mountinfo.rows.MountPoint.{MountPoint}

-- a slice's bytes and its address
abbrev pub placed : Bor (List ℕ) → Placed
placed slice = (slice.ref_ptr.1, slice.now)

-- a slice is that very part of another one that begins at this place: it lies there in memory
pub record LiesIn (whole part : Bor (List ℕ)) : Type 0 where
  pub start : ℕ
  pub block : part.ref_ptr.0 ≡ whole.ref_ptr.0
  pub address : part.ref_ptr.1 ≡ start + whole.ref_ptr.1
  pub within : start + length part.now ≤ length whole.now
  pub bytes : part.now ≡ take (length part.now) (drop start whole.now)

-- a field that is borrowed lies in the text
abbrev pub FieldLiesIn : Bor (List ℕ) → Field → Type 0
FieldLiesIn whole (Borrowed bytes) = LiesIn whole bytes
FieldLiesIn whole (Owned bytes) = Unit {0}

-- each field of a row that is borrowed lies in the text
pub record RowLiesIn (whole : Bor (List ℕ)) (m : MountPoint) : Type 0 where
  pub root : FieldLiesIn whole m.root
  pub mount_point : FieldLiesIn whole m.mount_point
  pub mount_options : FieldLiesIn whole m.mount_options
  pub optional_fields : FieldLiesIn whole m.optional_fields
  pub fstype : FieldLiesIn whole m.fstype
  pub mount_source : FieldLiesIn whole m.mount_source
  pub super_options : FieldLiesIn whole m.super_options

-- a slice lies in the text that is left, and there is one
abbrev pub LiesInRest : Option (Bor (List ℕ)) → Bor (List ℕ) → Type 0
LiesInRest None part = ⊥
LiesInRest (Some rest) part = LiesIn rest part

-- what is left lies in what was left
abbrev pub StaysIn : Option (Bor (List ℕ)) → Option (Bor (List ℕ)) → Type 0
StaysIn old None = Unit {0}
StaysIn old (Some rest) = LiesInRest old rest
