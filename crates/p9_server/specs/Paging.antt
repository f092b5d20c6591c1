-- What listing a directory of a host gives.
use Rattle.std.specs.Prelude.{◌≡◌, ℕ, ◌≤◌, List, [], Option, Some, None, Result, Ok, Err}
use Rattle.std.specs.Prelude.{if◌then◌else◌, ⊤, ◌/◌, ◌%◌, ◌==◌}
use Rattle.port_base.specs.Names.{name_fault}
use Rattle.port_base.specs.declared.errno.TheConstants.{ENOTDIR}
use Rattle.tree_model.specs.Tree.{Tree, body_at, is_directory_at}
use Rattle.tree_model.specs.Attributes.{entry_type}
use Rattle.tree_model.specs.Reading.{Entry, entry_after_of}
use Rattle.tree_model.specs.declared.attributes.TheConstants.{DT_DIR, DT_REG}
use Rattle.tree_model.specs.declared.attributes.HostError.{HostError}
use Rattle.tree_model.specs.declared.attributes.HostError.TheVariants.{Errno, Fault, NoMemory}
use Rattle.p9_server.specs.declared.directory_reader.DirEntry.{DirEntry}
use Rattle.p9_server.specs.declared.directory_reader.FileType.{FileType}
use Rattle.p9_server.specs.declared.directory_reader.FileType.TheVariants.{Regular, Directory, Other}
use Rattle.fid_model.specs.Listings.{entry_size, listed_page}

-- the entries of a directory above an offset that fit so many bytes, or ENOTDIR
abbrev pub page_told : Tree → ℕ → ℕ → ℕ → Result (List ℕ) ℕ
page_told t dir offset room = if is_directory_at (body_at t.records dir)
    then Ok (listed_page t dir offset room) else Err ENOTDIR

abbrev pub TakesBy : Tree → ℕ → ℕ → ℕ → Result (Option Entry) HostError → Type 0
TakesBy t dir cookie room (Ok None) = page_told t dir cookie room ≡ Ok []
TakesBy t dir cookie room (Ok (Some e)) = (entry_after_of t dir cookie ≡ Ok (Some e))
    × (entry_size e ≤ room) × (name_fault e.name ≡ None)
TakesBy t dir cookie room (Err (Errno e)) = page_told t dir cookie room ≡ Err e
TakesBy t dir cookie room (Err Fault) = ⊤
TakesBy t dir cookie room (Err NoMemory) = ⊤

-- the first entry of a page, none of a page without entries, or the page's refusal
pub record Takes (t : Tree) (dir cookie room : ℕ) (result : Result (Option Entry) HostError) : Type
    0 where
  pub exactly : TakesBy t dir cookie room result

-- ---- one entry after another

-- what is told of an entry
pub record Shows (d : DirEntry) (e : Entry) : Type 0 where
  pub ino : d.ino ≡ e.attr.ino
  pub offset : d.offset ≡ e.cookie
  pub kind : d.kind_ ≡ entry_type e.attr.kind
  pub name : d.name ≡ e.name

abbrev pub GivesBy : Result (Option Entry) ℕ → ℕ → ℕ → Option (Result DirEntry HostError) → Type 0
GivesBy told before now None = (told ≡ Ok None) × (now ≡ before)
GivesBy told before now (Some (Ok d)) =
    (e : Entry) × (told ≡ Ok (Some e)) × Shows d e × (now ≡ e.cookie)
GivesBy told before now (Some (Err (Errno e))) = (told ≡ Err e) × (now ≡ before)
GivesBy told before now (Some (Err Fault)) = now ≡ before
GivesBy told before now (Some (Err NoMemory)) = now ≡ before

-- the entry that a definition gives, behind which the reader stands then; or none, or why it
-- isn't told, and the reader stands where it stood
pub record Gives (told : Result (Option Entry) ℕ) (before now : ℕ)
    (result : Option (Result DirEntry HostError)) : Type 0 where
  pub exactly : GivesBy told before now result

-- no entry is an answer too
abbrev pub as_answer : {A : Type 0} → Option (Result A HostError) → Result (Option A) HostError
as_answer None = Ok None
as_answer (Some (Ok a)) = Ok (Some a)
as_answer (Some (Err e)) = Err e

-- a regular file, a directory or something else, by the type bits of a mode
abbrev pub file_type : ℕ → FileType
file_type mode =
    if mode / 4096 % 16 == DT_REG then Regular else
    if mode / 4096 % 16 == DT_DIR then Directory else Other
