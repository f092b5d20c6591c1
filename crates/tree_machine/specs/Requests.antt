-- Every request: the core requests, and those beyond them.
use Rattle.std.specs.Prelude.{ℕ, Bool, true, false, not, ◌&&◌, ◌||◌, Option, None, Result}
use Rattle.std.specs.Prelude.{Ok, Err}
use Rattle.std.specs.Prelude.{◌==◌}
use Rattle.std.specs.FinMap as map
use Rattle.port_base.specs.OpenFlags.{access, has_flag}
use Rattle.port_base.specs.declared.errno.TheConstants.{EACCES, EBADF, ESTALE}
use Rattle.port_base.specs.declared.oflag.TheConstants.{O_RDONLY, O_CREAT, O_TRUNC, O_DIRECTORY}
use Rattle.tree_model.specs.Attributes.{statfs_of}
use Rattle.tree_model.specs.Creating.{mkdir_of}
use Rattle.tree_model.specs.Opening.{readlink_of}
use Rattle.tree_model.specs.Tree.{Tree}
use Rattle.tree_model.specs.Settings.{Settings}
use Rattle.fuse_wire.specs.Request.{Request, rmdir, rename, rename2, symlink, mknod, readlink}
use Rattle.fuse_wire.specs.Request.{statfs, open_file, fsync, fsyncdir, interrupt, destroy, mkdir}
use Rattle.fuse_wire.specs.Request.{setattr, write, link, create}
use Rattle.tree_machine.specs.State.{MachineState}
use Rattle.tree_machine.specs.State.Phase.{Over}
use Rattle.tree_machine.specs.Replies.{Reply}
use Rattle.tree_machine.specs.Replies.Reply.{Refused, Sizes, Done}
use Rattle.tree_machine.specs.Refusals.{refused_unknown, refused_or}
use Rattle.tree_machine.specs.Core.{node_ino, opened, name_refusal, bytes_reply}
use Rattle.tree_machine.specs.Core.{getattr_refusal, lookup_refusal}
use Rattle.tree_machine.specs.Core.{changed_by, core_refusal, core_effect}
use Rattle.tree_machine.specs.Naming.{rmdir_told, rename_refusal, rename2_refusal, rename_told}
use Rattle.tree_machine.specs.Naming.{symlink_refusal, made, link_refusal, link_told, linked}
use Rattle.tree_machine.specs.Setting.{given_handle, set_attributes}
use Rattle.tree_model.specs.OpenedFiles.{new_file_of, open_of}
use Rattle.tree_machine.specs.Creating.{create_refusal, created}
use Rattle.tree_machine.specs.Writing.{write_refusal, write_told, wrote}

-- to read, with none of O_CREAT, O_TRUNC and O_DIRECTORY
abbrev pub opens_to_read : ℕ → Bool
opens_to_read flags =
    access flags == O_RDONLY
    && not (has_flag O_CREAT flags || has_flag O_TRUNC flags || has_flag O_DIRECTORY flags)

-- an OPEN by other flags isn't a core request, nor are these
abbrev pub is_core : Request → Bool
is_core (open_file flags) = opens_to_read flags
is_core (setattr asked) = false
is_core (write fh offset bytes) = false
is_core (rmdir name) = false
is_core (rename newdir old new) = false
is_core (rename2 newdir flags old new) = false
is_core (symlink name target) = false
is_core (mknod mode rdev name) = false
is_core (mkdir mode name) = false
is_core (link old name) = false
is_core (create flags mode name) = false
is_core readlink = false
is_core statfs = false
is_core (fsync fh flags) = false
is_core (fsyncdir fh flags) = false
is_core interrupt = false
is_core destroy = false
is_core _ = true

-- how much a tree may have
abbrev pub sizes_reply : Tree → Reply
sizes_reply t = Sizes (statfs_of t).blocks (statfs_of t).files

-- a file is opened; with O_TRUNC it is emptied
abbrev pub opened_to : MachineState → ℕ → ℕ → Result (Unit {0} × Tree) ℕ → Reply × MachineState
opened_to m ino flags (Ok (u, t)) = opened (record m { tree = t }) ino flags (Ok u)
opened_to m ino flags (Err e) = opened m ino flags (Err e)

-- the refusals that stand before a request's first message
abbrev pub refusal_before : Settings → MachineState → ℕ → Request → Option ℕ
refusal_before s m node (setattr asked) = getattr_refusal m node (given_handle asked)
refusal_before s m node (write fh offset bytes) = write_refusal (map.get m.handles fh)
refusal_before s m node (rmdir name) = name_refusal name (map.get m.nodes node)
refusal_before s m node (rename newdir old new) =
    rename_refusal old new (map.get m.nodes node) (map.get m.nodes newdir)
refusal_before s m node (rename2 newdir flags old new) =
    rename2_refusal flags old new (map.get m.nodes node) (map.get m.nodes newdir)
refusal_before s m node (symlink name target) =
    symlink_refusal name target (map.get m.nodes node)
refusal_before s m node (mknod mode rdev name) = name_refusal name (map.get m.nodes node)
refusal_before s m node (mkdir mode name) = lookup_refusal s m name (map.get m.nodes node)
refusal_before s m node (link old name) =
    link_refusal s m name (map.get m.nodes old) (map.get m.nodes node)
refusal_before s m node (create flags mode name) = create_refusal s m name (map.get m.nodes node)
refusal_before s m node readlink = refused_unknown (map.get m.nodes node) ESTALE
refusal_before s m node statfs = refused_unknown (map.get m.nodes node) ESTALE
refusal_before s m node (fsync fh flags) = refused_unknown (map.get m.handles fh) EBADF
refusal_before s m node (fsyncdir fh flags) = refused_unknown (map.get m.handles fh) EBADF
refusal_before s m node interrupt = None
refusal_before s m node destroy = None
refusal_before s m node r = core_refusal s m node r

-- the reply, and the state that is left, where none of these refusals stands
abbrev pub effect_of : Settings → MachineState → ℕ → Request → Reply × MachineState
effect_of s m node (open_file flags) =
    let ino = node_ino (map.get m.nodes node) in opened_to m ino flags (open_of m.tree ino flags)
effect_of s m node (setattr asked) = set_attributes s m node asked
effect_of s m node (write fh offset bytes) = wrote m (write_told m fh offset bytes)
effect_of s m node (rmdir name) =
    changed_by m (rmdir_told m (node_ino (map.get m.nodes node)) name)
effect_of s m node (rename newdir old new) =
    changed_by m (rename_told m (node_ino (map.get m.nodes node)) old
    (node_ino (map.get m.nodes newdir)) new)
effect_of s m node (rename2 newdir flags old new) =
    changed_by m (rename_told m (node_ino (map.get m.nodes node)) old
    (node_ino (map.get m.nodes newdir)) new)
effect_of s m node (symlink name target) = (Refused EACCES, m)
effect_of s m node (mknod mode rdev name) = (Refused EACCES, m)
effect_of s m node (mkdir mode name) =
    made s m (mkdir_of m.tree (node_ino (map.get m.nodes node)) name mode)
effect_of s m node (link old name) =
    let ino = node_ino (map.get m.nodes old) in
    linked s m ino (link_told m ino (node_ino (map.get m.nodes node)) name)
effect_of s m node (create flags mode name) =
    created s m flags (new_file_of m.tree (node_ino (map.get m.nodes node)) name flags mode)
effect_of s m node readlink =
    (bytes_reply (readlink_of m.tree (node_ino (map.get m.nodes node))), m)
effect_of s m node statfs = (sizes_reply m.tree, m)
effect_of s m node (fsync fh flags) = (Done, m)
effect_of s m node (fsyncdir fh flags) = (Done, m)
effect_of s m node interrupt = (Done, m)
effect_of s m node destroy = (Done, record m { phase = Over })
effect_of s m node r = core_effect s m node r

-- what a request answers, and the state that it leaves
abbrev pub answer_of : Settings → MachineState → ℕ → Result Request ℕ → Reply × MachineState
answer_of s m node (Err e) = (Refused e, m)
answer_of s m node (Ok r) = refused_or m (refusal_before s m node r) (effect_of s m node r)
