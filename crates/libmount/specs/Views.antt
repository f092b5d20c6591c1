-- What the code returns: of a part of the text its bytes and its address.
use Rattle.std.specs.Prelude.{◌≡◌, ℕ, List, Option, Some, None, IsSome, Result, Ok, Err}
use Rattle.std.specs.Option.{option_map}
use Rattle.port_base.specs.declared.flags.MsFlags.{MsFlags}
use Rattle.port_base.specs.Flags.{bits_of}
use Rattle.libmount.specs.declared.mountinfo.errors.ParseError.{ParseError}
use Rattle.libmount.specs.declared.mountinfo.errors.ParseError.TheVariants.{Row as ErrorRow}
use Rattle.libmount.specs.declared.mountinfo.errors.ParseError.TheVariants.{NoMemory as OutOfMemory}
use Rattle.libmount.specs.declared.mountinfo.errors.RowError.{RowError}
use Rattle.libmount.specs.declared.mountinfo.errors.RowFault.{RowFault}
use Rattle.libmount.specs.declared.mountinfo.errors.RowFault.TheVariants.{Row as RefusedRow}
use Rattle.libmount.specs.declared.mountinfo.errors.RowFault.TheVariants.{NoMemory as NoRowMemory}
use Rattle.libmount.specs.declared.mountinfo.escapes.Field.{Field}
use Rattle.libmount.specs.declared.mountinfo.escapes.Field.TheVariants.{Borrowed, Owned}
use Rattle.libmount.specs.declared.mountinfo.refusals.Refusal.{Refusal}
use Rattle.libmount.specs.declared.mountinfo.refusals.Refusal.TheVariants.{MoreFields, Number}
use Rattle.libmount.specs.declared.mountinfo.refusals.Refusal.TheVariants.{NoMemory}
use Rattle.libmount.specs.declared.mountinfo.rows.MountPoint.{MountPoint}
use Rattle.libmount.specs.declared.errors.RemountError.{RemountError}
use Rattle.libmount.specs.declared.errors.RemountError.TheVariants.{Io, ParseMountInfo}
use Rattle.libmount.specs.declared.errors.RemountError.TheVariants.{UnknownMountPoint}
use Rattle.libmount.specs.declared.errors.RemountError.TheVariants.{NoMemory as NoRemountMemory}
use Rattle.libmount.specs.Items.{Item, Refused}
use Rattle.libmount.specs.Reading.{Message, bad_number, more_fields}
use Rattle.libmount.specs.Rows.{Row, Text, borrowed, owned}
use Rattle.libmount.specs.Slices.{placed}

abbrev pub text : Field → Text
text (Borrowed bytes) = borrowed (placed bytes)
text (Owned bytes) = owned bytes.items

-- the field is this text, unless memory ran out
abbrev pub GivesText : Result Field Refusal → Text → Type 0
GivesText (Ok field) wanted = wanted ≡ text field
GivesText (Err refusal) wanted = refusal ≡ NoMemory

abbrev pub row_view : MountPoint → Row
row_view m = record {
  mount_id = m.mount_id;
  parent_id = m.parent_id;
  major = m.major;
  minor = m.minor;
  root = text m.root;
  mount_point = text m.mount_point;
  mount_options = text m.mount_options;
  optional_fields = text m.optional_fields;
  fstype = text m.fstype;
  mount_source = text m.mount_source;
  super_options = text m.super_options;
}

-- what a line says, or its refusal's message; running out of memory comes at no line that is
-- passed over
abbrev pub GivesRow : Result (Option MountPoint) RowFault → Result (Option Row) Message → Type 0
GivesRow (Ok found) read = read ≡ Ok (option_map row_view found)
GivesRow (Err (RefusedRow e)) read = read ≡ Err e.0.items
GivesRow (Err NoRowMemory) read = read ≡ Ok None → ⊥

-- the message of a refusal
abbrev pub told : Refusal → Option Message
told MoreFields = Some more_fields
told (Number field fault) = Some (bad_number field.now fault)
told NoMemory = None

-- the refusal in words, unless memory ran out
abbrev pub Tells : Refusal → RowFault → Type 0
Tells refusal (RefusedRow e) = told refusal ≡ Some e.0.items
Tells refusal NoRowMemory = Unit {0}

abbrev pub refused_view : RowError → Refused
refused_view e = record { message = e.message.items; number = e.row_num; row = e.row.items }

-- the row that a fault refuses, unless memory ran out
abbrev pub IsRefused : RowFault → ℕ → List ℕ → ParseError → Type 0
IsRefused fault number line OutOfMemory = Unit {0}
IsRefused (RefusedRow error) number line (ErrorRow e) =
    refused_view e ≡ record { message = error.0.items; number = number; row = line }
IsRefused NoRowMemory number line (ErrorRow e) = ⊥

-- what a line says, where it isn't passed over; running out of memory comes at no line that is
abbrev pub GivesItem : Option (Result MountPoint ParseError) → Option Item → Type 0
GivesItem None wanted = wanted ≡ None
GivesItem (Some (Ok m)) wanted = wanted ≡ Some (Ok (row_view m))
GivesItem (Some (Err (ErrorRow e))) wanted = wanted ≡ Some (Err (refused_view e))
GivesItem (Some (Err OutOfMemory)) wanted = IsSome wanted

-- what a line says of the flags of a path, unless memory ran out
abbrev pub GivesVerdict : Result (Option MsFlags) RemountError → Option (Result ℕ Message) → Type 0
GivesVerdict (Ok None) wanted = wanted ≡ None
GivesVerdict (Ok (Some flags)) wanted = wanted ≡ Some (Ok (bits_of flags))
GivesVerdict (Err (ParseMountInfo message)) wanted = wanted ≡ Some (Err message.items)
GivesVerdict (Err NoRemountMemory) wanted = Unit {0}
GivesVerdict (Err (Io cause)) wanted = ⊥
GivesVerdict (Err (UnknownMountPoint path)) wanted = ⊥

-- the flags that a table gives a path, unless memory ran out
abbrev pub GivesFlags : Result (Option MsFlags) RemountError → Result (Option ℕ) Message → Type 0
GivesFlags (Ok found) wanted = wanted ≡ Ok (option_map bits_of found)
GivesFlags (Err (ParseMountInfo message)) wanted = wanted ≡ Err message.items
GivesFlags (Err NoRemountMemory) wanted = Unit {0}
GivesFlags (Err (Io cause)) wanted = ⊥
GivesFlags (Err (UnknownMountPoint path)) wanted = ⊥
