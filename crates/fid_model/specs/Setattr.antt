-- What a Tsetattr sets, by the bits of its `valid`.
use Rattle.std.specs.Prelude.{ℕ, Bool, false, ◌||◌, ◌==◌, List, [], Option, Some, None, bit_and}
use Rattle.port_base.specs.OpenFlags.{has_flag}
use Rattle.port_base.specs.declared.oflag.TheConstants.{O_RDONLY}
use Rattle.tree_model.specs.AttributeSteps.{NewAttributes, Step, attribute_steps, new_owner}
use Rattle.tree_model.specs.AttributeSteps.{new_time}
use Rattle.tree_model.specs.declared.attributes.Stamp.{Stamp}
use Rattle.fid_model.specs.Fids.{Fid, OpenState}
use Rattle.fid_model.specs.Fids.OpenState.{Closed, Opened}
use Rattle.fid_model.specs.declared.setattr.TheConstants.{P9_SETATTR_MODE, P9_SETATTR_UID}
use Rattle.fid_model.specs.declared.setattr.TheConstants.{P9_SETATTR_GID, P9_SETATTR_SIZE}
use Rattle.fid_model.specs.declared.setattr.TheConstants.{P9_SETATTR_ATIME, P9_SETATTR_MTIME}
use Rattle.fid_model.specs.declared.setattr.TheConstants.{P9_SETATTR_CTIME, P9_SETATTR_ATIME_SET}
use Rattle.fid_model.specs.declared.setattr.TheConstants.{P9_SETATTR_MTIME_SET, P9_SETATTR_NAMED}

-- what a Tsetattr gives; the bits of `valid` say which of it counts
pub record Changes : Type 0 where
  pub valid : ℕ
  pub mode : ℕ
  pub uid : ℕ
  pub gid : ℕ
  pub size : ℕ
  pub atime : Stamp
  pub mtime : Stamp

abbrev pub changes : (valid mode uid gid size atime_sec atime_nsec mtime_sec mtime_nsec : ℕ)
    → Changes
changes valid mode uid gid size atime_sec atime_nsec mtime_sec mtime_nsec = record {
  valid = valid;
  mode = mode;
  uid = uid;
  gid = gid;
  size = size;
  atime = record { sec = atime_sec; nsec = atime_nsec };
  mtime = record { sec = mtime_sec; nsec = mtime_nsec };
}

-- a time is set where its bit is, and to the given one where the bit of its value is too; ctime is
-- set by itself only where it is the one named bit; bits without a name are ignored
abbrev pub new_attributes : Changes → NewAttributes
new_attributes c = record {
  sets_mode = has_flag P9_SETATTR_MODE c.valid;
  mode = c.mode;
  sets_owner = has_flag P9_SETATTR_UID c.valid || has_flag P9_SETATTR_GID c.valid;
  uid = new_owner (has_flag P9_SETATTR_UID c.valid) c.uid;
  gid = new_owner (has_flag P9_SETATTR_GID c.valid) c.gid;
  sets_size = has_flag P9_SETATTR_SIZE c.valid;
  size = c.size;
  sets_times = has_flag P9_SETATTR_ATIME c.valid || has_flag P9_SETATTR_MTIME c.valid;
  atime = new_time (has_flag P9_SETATTR_ATIME c.valid) (has_flag P9_SETATTR_ATIME_SET c.valid)
      c.atime;
  mtime = new_time (has_flag P9_SETATTR_MTIME c.valid) (has_flag P9_SETATTR_MTIME_SET c.valid)
      c.mtime;
  touches_ctime = bit_and c.valid P9_SETATTR_NAMED == P9_SETATTR_CTIME;
}

abbrev pub is_open_to_read_alone : OpenState → Bool
is_open_to_read_alone Closed = false
is_open_to_read_alone (Opened access append) = access == O_RDONLY

abbrev pub steps : Changes → Fid → List Step
steps c f = attribute_steps (is_open_to_read_alone f.open_state) f.ino (new_attributes c)

-- a fid that isn't there has no steps
abbrev pub steps_at : Changes → Option Fid → List Step
steps_at c None = []
steps_at c (Some f) = steps c f
