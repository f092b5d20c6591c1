-- A directory as a server tells it, message by message, and the listing that the gate makes of it.
use Rattle.std.specs.Prelude.{◌≡◌, ℕ, ◌+◌, ◌-◌, true, List, [], ◌∷◌, ◌++◌, length, Option, Some, None}
use Rattle.std.specs.Prelude.{option_map}
use Rattle.std.specs.Prelude.{unwrap_or, if◌then◌else◌, ◌==◌, nat_lt}
use Rattle.std.specs.List.{flat_map}
use Rattle.std.specs.FinMap as map
use Rattle.tree_model.specs.declared.attributes.TheConstants.{DT_DIR, DT_LNK}
use Rattle.tree_model.specs.Tree.{body_at, is_directory_at}
use Rattle.tree_model.specs.Pages.{front_within, page_of}
use Rattle.fuse_wire.specs.Listing.{padded_size, dirent_bytes}
use Rattle.fuse_wire.specs.declared.attr.FileType.{FileType}
use Rattle.fuse_wire.specs.declared.attr.FileType.TheVariants.{Directory, RegularFile, Symlink}
use Rattle.p9_rmsg.specs.Dirents.{Entry as Dirent}
use Rattle.tree_machine.specs.Replies.{Reply}
use Rattle.tree_machine.specs.Replies.Reply.{Bytes}
use Rattle.tree_machine.specs.Listing.{entry_size, listing_bytes}
use Rattle.tree_machine.specs.Messages.{listing_messages}
use Rattle.fid_model.specs.Fids.{ServerState, Fid, is_open}
use Rattle.fid_model.specs.Moments.{Moment, Untouched}
use Rattle.fuse_gate.specs.Standing.{piece_of}
use Rattle.fuse_gate.specs.Steps.{Serves, machine_at}
use Rattle.fuse_gate.specs.declared.gate.Gate.{Gate}

-- what a type byte tells
abbrev pub type_by : ℕ → FileType
type_by ty = if ty == DT_DIR then Directory else if ty == DT_LNK then Symlink else RegularFile

-- an entry that was told, as a reply has it
abbrev pub told_size : Dirent → ℕ
told_size d = padded_size (length d.1.1.1)

abbrev pub told_bytes : Dirent → List ℕ
told_bytes d = dirent_bytes d.0.1.1 d.1.0 (type_by d.1.1.0) d.1.1.1

-- the offset of the last entry, or the given one
abbrev pub last_told : ℕ → List Dirent → ℕ
last_told cookie [] = cookie
last_told cookie (d ∷ ds) = last_told d.1.0 ds

-- where to read on: nowhere, where an entry has no room
abbrev pub next_told : List Dirent → List Dirent → Option ℕ
next_told run ds = if nat_lt (length run) (length ds) then None else Some (last_told 0 ds)

-- of entries those that have room in so many bytes were added, and it is told where to read on
pub record AddsFront (end : ℕ) (old new : List ℕ) (ds : List Dirent) (next : Option ℕ) : Type 0
  where
    pub items : new ≡ old ++ flat_map told_bytes (front_within told_size (end - length old) ds)
    pub told : next ≡ next_told (front_within told_size (end - length old) ds) ds

-- the fid is open, and names this directory
pub record ListsDirectory (s : ServerState) (fid dir : ℕ) : Type 0 where
  pub f : Fid
  pub at : map.get s.fids fid ≡ Some f
  pub names : f.ino ≡ dir
  pub open_now : is_open f.open_state ≡ true
  pub directory : is_directory_at (body_at s.tree.records dir) ≡ true

-- the inode that a fid names
abbrev pub directory_at : ServerState → ℕ → ℕ
directory_at s fid = unwrap_or (option_map (λ (f : Fid). f.ino) (map.get s.fids fid)) 0

-- the listing of a fid's directory from a cookie on, in at most so many bytes
abbrev pub ServesListing : ℕ → ℕ → ℕ → Gate × Moment → Gate × Moment → Reply → Type 0
ServesListing fid offset size old new reply =
    let t = old.1.state.tree in
    let dir = directory_at old.1.state fid in
    let page = page_of entry_size size t dir offset in
    Serves (Bytes (listing_bytes page), machine_at old)
    (listing_messages (length page + 1) (piece_of old.1.state) t dir offset page)
    (Untouched t) old new reply
