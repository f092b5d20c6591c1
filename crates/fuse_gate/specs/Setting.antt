-- A Tsetattr that sets what a SETATTR asks.
use Rattle.std.specs.Prelude.{ℕ, Bool, not, ◌&&◌, List, [], ◌∷◌, if◌then◌else◌}
use Rattle.std.specs.Int.RustNames.{bit_or}
use Rattle.port_base.specs.OpenFlags.{has_flag}
use Rattle.fuse_wire.specs.declared.setattr.SetAttrIn.{SetAttrIn}
use Rattle.fuse_wire.specs.declared.setattr.TheConstants.{FATTR_MODE, FATTR_UID, FATTR_GID}
use Rattle.fuse_wire.specs.declared.setattr.TheConstants.{FATTR_SIZE, FATTR_ATIME, FATTR_MTIME}
use Rattle.fuse_wire.specs.declared.setattr.TheConstants.{FATTR_ATIME_NOW, FATTR_MTIME_NOW}
use Rattle.fuse_wire.specs.declared.setattr.TheConstants.{FATTR_CTIME}
use Rattle.fid_model.specs.declared.setattr.TheConstants.{P9_SETATTR_MODE, P9_SETATTR_UID}
use Rattle.fid_model.specs.declared.setattr.TheConstants.{P9_SETATTR_GID, P9_SETATTR_SIZE}
use Rattle.fid_model.specs.declared.setattr.TheConstants.{P9_SETATTR_ATIME, P9_SETATTR_MTIME}
use Rattle.fid_model.specs.declared.setattr.TheConstants.{P9_SETATTR_CTIME, P9_SETATTR_ATIME_SET}
use Rattle.fid_model.specs.declared.setattr.TheConstants.{P9_SETATTR_MTIME_SET}
use Rattle.p9_tmsg.specs.declared.message.Tsetattr.{Tsetattr}

-- bits, each of them set or not, on top of others
abbrev pub with_bit : Bool → ℕ → ℕ → ℕ
with_bit is_set bit bits = if is_set then bit_or bits bit else bits

abbrev pub with_bits : List (Bool × ℕ) → ℕ → ℕ
with_bits [] bits = bits
with_bits (x ∷ more) bits = with_bits more (with_bit x.0 x.1 bits)

-- a time that is set is the given one, where it doesn't become the moment
abbrev pub is_given : ℕ → ℕ → ℕ → Bool
is_given time now valid = has_flag time valid && not (has_flag now valid)

-- the bits of a Tsetattr for those of a SETATTR
abbrev pub nine_valid : ℕ → ℕ
nine_valid valid = with_bits (
    (has_flag FATTR_MODE valid, P9_SETATTR_MODE)
    ∷ (has_flag FATTR_UID valid, P9_SETATTR_UID)
    ∷ (has_flag FATTR_GID valid, P9_SETATTR_GID)
    ∷ (has_flag FATTR_SIZE valid, P9_SETATTR_SIZE)
    ∷ (has_flag FATTR_ATIME valid, P9_SETATTR_ATIME)
    ∷ (has_flag FATTR_MTIME valid, P9_SETATTR_MTIME)
    ∷ (has_flag FATTR_CTIME valid, P9_SETATTR_CTIME)
    ∷ (is_given FATTR_ATIME FATTR_ATIME_NOW valid, P9_SETATTR_ATIME_SET)
    ∷ (is_given FATTR_MTIME FATTR_MTIME_NOW valid, P9_SETATTR_MTIME_SET)
    ∷ []) 0

abbrev pub set_message : ℕ → SetAttrIn → Tsetattr
set_message fid asked = record {
  fid = fid;
  valid = nine_valid asked.valid;
  mode = asked.mode;
  uid = asked.uid;
  gid = asked.gid;
  size = asked.size;
  atime_sec = asked.atime;
  atime_nsec = asked.atimensec;
  mtime_sec = asked.mtime;
  mtime_nsec = asked.mtimensec;
}
