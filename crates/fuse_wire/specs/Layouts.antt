-- Parts of a request's body, as fuse.h (protocol 7) lays them out.
use Rattle.std.specs.Prelude.{◌≡◌, ◌≢◌, ℕ, ◌+◌, All, List, [], ◌∷◌, ◌++◌, length, take, drop}
use Rattle.std.specs.Prelude.{position, Option, Some, None, Bool, ◌==◌, nat_lt, if◌then◌else◌}
use Rattle.std.specs.Option.{option_map, option_and_then}
use Rattle.fuse_wire.specs.declared.opcode.TheConstants.{FUSE_READ_LOCKOWNER}
use Rattle.fuse_wire.specs.declared.layouts.ReadIn.{ReadIn}
use Rattle.fuse_wire.specs.declared.layouts.SyncIn.{SyncIn}
use Rattle.fuse_wire.specs.declared.layouts.TheConstants.{OPEN_IN_SIZE, READ_IN_SIZE}
use Rattle.fuse_wire.specs.declared.layouts.TheConstants.{RELEASE_IN_SIZE, FSYNC_IN_SIZE}
use Rattle.fuse_wire.specs.Fields.{u32_at, u64_at, given}

-- ---- names

abbrev pub is_zero : ℕ → Bool
is_zero byte = byte == 0

-- a name up to its zero byte, and what follows that
abbrev pub split_name : List ℕ → ℕ → List ℕ × List ℕ
split_name bytes zero_at = (take zero_at bytes, drop (zero_at + 1) bytes)

unfoldable pub name_at : List ℕ → Option (List ℕ × List ℕ)
name_at bytes = option_map (split_name bytes) (position is_zero bytes)

-- the name, where nothing follows it
abbrev pub alone : List ℕ × List ℕ → Option (List ℕ)
alone x = if length x.1 == 0 then Some x.0 else None

-- a body that is one name: it ends by a zero byte, and has none inside
unfoldable pub only_name : List ℕ → Option (List ℕ)
only_name body = option_and_then alone (name_at body)

-- the grammar of such a body
pub record IsName (name body : List ℕ) : Type 0 where
  pub ended : body ≡ name ++ 0 ∷ []
  pub inside : All (λ byte. byte ≢ 0) name

-- a name behind so many bytes
unfoldable pub name_behind : ℕ → List ℕ → Option (List ℕ)
name_behind size body = if nat_lt (length body) size then None else only_name (drop size body)

-- a name, and then another that nothing follows
abbrev pub with_second : List ℕ × List ℕ → Option (List ℕ × List ℕ)
with_second x = option_map (λ second. (x.0, second)) (only_name x.1)

unfoldable pub two_names : List ℕ → Option (List ℕ × List ℕ)
two_names body = option_and_then with_second (name_at body)

-- two names behind so many bytes
unfoldable pub two_names_behind : ℕ → List ℕ → Option (List ℕ × List ℕ)
two_names_behind size body =
    if nat_lt (length body) size then None else two_names (drop size body)

-- ---- numbers

-- flags of 4 bytes, and 4 bytes that are ignored
unfoldable pub flags_of : List ℕ → Option ℕ
flags_of body = if length body == OPEN_IN_SIZE then Some (u32_at body 0) else None

-- a handle and an offset of 8 bytes each, a size and flags of 4, the owner of a lock of 8, the
-- file's flags of 4, and 4 bytes that are ignored
unfoldable pub read_in_of : List ℕ → Option ReadIn
read_in_of body = if length body == READ_IN_SIZE then Some (record {
  fh = u64_at body 0;
  offset = u64_at body 8;
  size = u32_at body 16;
  flags = u32_at body 32;
  lock = given (u32_at body 20) FUSE_READ_LOCKOWNER (u64_at body 24);
}) else None

-- a handle of 8 bytes, and 16 bytes that are ignored
unfoldable pub handle_of : List ℕ → Option ℕ
handle_of body = if length body == RELEASE_IN_SIZE then Some (u64_at body 0) else None

-- a handle of 8 bytes, flags of 4, and 4 bytes that are ignored
unfoldable pub sync_in_of : List ℕ → Option SyncIn
sync_in_of body = if length body == FSYNC_IN_SIZE then Some (record {
  fh = u64_at body 0;
  flags = u32_at body 8;
}) else None
