-- SETATTR: attributes of a handle's inode, or of the node's, that are set step by step.
use Rattle.std.specs.Prelude.{ℕ, Bool, false, not, ◌&&◌, ◌||◌, ◌==◌, List, Option, Some, None, Result}
use Rattle.std.specs.Prelude.{Ok, Err}
use Rattle.std.specs.FinMap as map
use Rattle.port_base.specs.OpenFlags.{has_flag}
use Rattle.port_base.specs.declared.oflag.TheConstants.{O_RDONLY}
use Rattle.tree_model.specs.AttributeSteps.{NewAttributes, Step, attribute_steps, new_owner}
use Rattle.tree_model.specs.AttributeSteps.{new_time, run}
use Rattle.tree_model.specs.Settings.{Settings}
use Rattle.tree_model.specs.Tree.{Tree}
use Rattle.fuse_wire.specs.Fields.{given}
use Rattle.fuse_wire.specs.declared.setattr.SetAttrIn.{SetAttrIn}
use Rattle.fuse_wire.specs.declared.setattr.TheConstants.{FATTR_MODE, FATTR_UID, FATTR_GID}
use Rattle.fuse_wire.specs.declared.setattr.TheConstants.{FATTR_SIZE, FATTR_ATIME, FATTR_MTIME}
use Rattle.fuse_wire.specs.declared.setattr.TheConstants.{FATTR_FH, FATTR_ATIME_NOW}
use Rattle.fuse_wire.specs.declared.setattr.TheConstants.{FATTR_MTIME_NOW, FATTR_CTIME}
use Rattle.tree_machine.specs.State.{MachineState, Handle}
use Rattle.tree_machine.specs.Replies.{Reply}
use Rattle.tree_machine.specs.Replies.Reply.{Refused}
use Rattle.tree_machine.specs.Core.{attr_reply, getattr_ino, shown_at}

-- the handle that is given
abbrev pub given_handle : SetAttrIn → Option ℕ
given_handle a = given a.valid FATTR_FH a.fh

-- mode, owners, size or times are set
abbrev pub sets_more : SetAttrIn → Bool
sets_more a =
    has_flag FATTR_MODE a.valid || has_flag FATTR_UID a.valid || has_flag FATTR_GID a.valid
    || has_flag FATTR_SIZE a.valid || has_flag FATTR_ATIME a.valid || has_flag FATTR_MTIME a.valid

-- a time that is set becomes the given one, or the moment where the bit for that is set too; ctime
-- is set by itself only where nothing else is
abbrev pub new_attributes : SetAttrIn → NewAttributes
new_attributes a = record {
  sets_mode = has_flag FATTR_MODE a.valid;
  mode = a.mode;
  sets_owner = has_flag FATTR_UID a.valid || has_flag FATTR_GID a.valid;
  uid = new_owner (has_flag FATTR_UID a.valid) a.uid;
  gid = new_owner (has_flag FATTR_GID a.valid) a.gid;
  sets_size = has_flag FATTR_SIZE a.valid;
  size = a.size;
  sets_times = has_flag FATTR_ATIME a.valid || has_flag FATTR_MTIME a.valid;
  atime = new_time (has_flag FATTR_ATIME a.valid) (not (has_flag FATTR_ATIME_NOW a.valid))
      (record { sec = a.atime; nsec = a.atimensec });
  mtime = new_time (has_flag FATTR_MTIME a.valid) (not (has_flag FATTR_MTIME_NOW a.valid))
      (record { sec = a.mtime; nsec = a.mtimensec });
  touches_ctime = has_flag FATTR_CTIME a.valid && not (sets_more a);
}

-- whether an inode is set through a handle that is open to be read alone
abbrev pub is_read_alone : Option Handle → Bool
is_read_alone None = false
is_read_alone (Some h) = h.access == O_RDONLY

abbrev pub set_through : MachineState → Option ℕ → Option Handle
set_through m None = None
set_through m (Some handle) = map.get m.handles handle

abbrev pub set_steps : MachineState → ℕ → SetAttrIn → List Step
set_steps m node a =
    attribute_steps (is_read_alone (set_through m (given_handle a)))
    (getattr_ino m node (given_handle a)) (new_attributes a)

-- the attributes as they are then; a step that was done stays where a later one is refused
abbrev pub set_reply : Settings → MachineState → ℕ → Result (Unit {0}) ℕ × Tree → Reply × MachineState
set_reply s m ino (Ok u, t) = (attr_reply (shown_at s t ino), record m { tree = t })
set_reply s m ino (Err e, t) = (Refused e, record m { tree = t })

abbrev pub set_attributes : Settings → MachineState → ℕ → SetAttrIn → Reply × MachineState
set_attributes s m node a =
    set_reply s m (getattr_ino m node (given_handle a)) (run (set_steps m node a) m.tree)
