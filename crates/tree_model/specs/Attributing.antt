-- Calls on the attributes and the bytes of one record.
use Rattle.std.specs.Prelude.{ℕ, ◌+◌, ◌-◌, ◌%◌, Bool, true, not, ◌&&◌, ◌==◌, List, ◌++◌, length}
use Rattle.std.specs.Prelude.{take, drop, replicate, Option, Some, None, Result, if◌then◌else◌}
use Rattle.std.specs.Prelude.{nat_le, nat_lt, unwrap_or}
use Rattle.port_base.specs.declared.errno.TheConstants.{ENOENT, EISDIR, EINVAL, EFBIG, EOPNOTSUPP}
use Rattle.tree_model.specs.declared.attributes.Stamp.{Stamp}
use Rattle.tree_model.specs.declared.attributes.TimeSet.{TimeSet}
use Rattle.tree_model.specs.declared.attributes.TimeSet.TheVariants.{Keep, Now, At}
use Rattle.tree_model.specs.Tree.{Tree, Record, Body, body_at}
use Rattle.tree_model.specs.Tree.Body.{File, Directory, Link}
use Rattle.tree_model.specs.Making.{change, unless_refused}

-- the tree with the record at an inode changed
abbrev pub with_changed : (Record → Record) → ℕ → Tree → Tree
with_changed f ino t = record t { records = change f t.records ino }

-- what refuses a call on the body of an inode that is held
abbrev pub refused_at : (Body → Option ℕ) → Option Body → Option ℕ
refused_at refused None = Some ENOENT
refused_at refused (Some b) = refused b

-- ---- modes, owners and times

-- ctime becomes the moment
abbrev pub restamped : Stamp → Record → Record
restamped moment r = record r { ctime = moment }

abbrev pub never : Body → Option ℕ
never b = None

-- `touch_ctime`
abbrev pub touch_ctime_of : Tree → ℕ → Result (Unit {0} × Tree) ℕ
touch_ctime_of t ino =
    unless_refused (refused_at never (body_at t.records ino))
    tt (with_changed (restamped t.moment) ino t)

abbrev pub refused_for_link : Body → Option ℕ
refused_for_link (File bytes) = None
refused_for_link (Directory es next above) = None
refused_for_link (Link target) = Some EOPNOTSUPP

abbrev pub remoded : ℕ → Stamp → Record → Record
remoded mode moment r = record r { mode = mode % 4096; ctime = moment }

-- `set_mode`: the mode modulo 4096; a link's mode stays
abbrev pub set_mode_of : Tree → ℕ → ℕ → Result (Unit {0} × Tree) ℕ
set_mode_of t ino mode =
    unless_refused (refused_at refused_for_link (body_at t.records ino))
    tt (with_changed (remoded mode t.moment) ino t)

abbrev pub owned_by : Option ℕ → Option ℕ → Stamp → Record → Record
owned_by uid gid moment r = record r {
  uid = unwrap_or uid r.uid;
  gid = unwrap_or gid r.gid;
  ctime = moment;
}

-- `set_owner`: the owners that are given
abbrev pub set_owner_of : Tree → ℕ → Option ℕ → Option ℕ → Result (Unit {0} × Tree) ℕ
set_owner_of t ino uid gid =
    unless_refused (refused_at never (body_at t.records ino))
    tt (with_changed (owned_by uid gid t.moment) ino t)

-- a time that is given has its nanoseconds below a second
abbrev pub is_timely : TimeSet → Bool
is_timely Keep = true
is_timely Now = true
is_timely (At stamp) = nat_lt stamp.nsec 1000000000

-- what becomes of a time
abbrev pub time_after : TimeSet → Stamp → Stamp → Stamp
time_after Keep moment old = old
time_after Now moment old = moment
time_after (At stamp) moment old = stamp

abbrev pub times_refused : TimeSet → TimeSet → Body → Option ℕ
times_refused atime mtime b = if is_timely atime && is_timely mtime then None else Some EINVAL

abbrev pub retimed : TimeSet → TimeSet → Stamp → Record → Record
retimed atime mtime moment r = record r {
  atime = time_after atime moment r.atime;
  mtime = time_after mtime moment r.mtime;
  ctime = moment;
}

-- `set_times`: EINVAL for a given time whose nanoseconds are a second or more
abbrev pub set_times_of : Tree → ℕ → TimeSet → TimeSet → Result (Unit {0} × Tree) ℕ
set_times_of t ino atime mtime =
    unless_refused (refused_at (times_refused atime mtime) (body_at t.records ino))
    tt (with_changed (retimed atime mtime t.moment) ino t)

-- ---- bytes

-- cut to a length, or filled up to it with zeros
abbrev pub resized : ℕ → List ℕ → List ℕ
resized len bytes = take len bytes ++ replicate (len - length bytes) 0

-- written over from an offset on; a gap before it is zeros
abbrev pub written : ℕ → List ℕ → List ℕ → List ℕ
written offset new old = resized offset old ++ new ++ drop (offset + length new) old

abbrev pub with_bytes : (List ℕ → List ℕ) → Body → Body
with_bytes f (File bytes) = File (f bytes)
with_bytes f (Directory es next above) = Directory es next above
with_bytes f (Link target) = Link target

-- a file is refused by a test, a directory and a link always
abbrev pub refused_unless_file : Option ℕ → Body → Option ℕ
refused_unless_file e (File bytes) = e
refused_unless_file e (Directory es next above) = Some EISDIR
refused_unless_file e (Link target) = Some EINVAL

abbrev pub rewritten_at : Stamp → (List ℕ → List ℕ) → Record → Record
rewritten_at moment f r = record r { body = with_bytes f r.body; mtime = moment; ctime = moment }

abbrev pub len_refused : ℕ → ℕ → Body → Option ℕ
len_refused limit len = refused_unless_file (if nat_lt limit len then Some EFBIG else None)

-- `set_len`: EFBIG above the limit
abbrev pub set_len_of : Tree → ℕ → ℕ → Result (Unit {0} × Tree) ℕ
set_len_of t ino len =
    unless_refused (refused_at (len_refused t.limits.file len) (body_at t.records ino))
    tt (with_changed (rewritten_at t.moment (resized len)) ino t)

-- the bytes that end by a limit
abbrev pub fitting : ℕ → ℕ → List ℕ → List ℕ
fitting limit offset bytes = take (limit - offset) bytes

-- a record with bytes written over its own; no bytes change nothing
abbrev pub overwritten_at : Stamp → ℕ → List ℕ → Record → Record
overwritten_at moment offset new r =
    if length new == 0 then r else rewritten_at moment (written offset new) r

abbrev pub write_refused : ℕ → ℕ → List ℕ → Body → Option ℕ
write_refused limit offset new =
    refused_unless_file (if not (length new == 0) && nat_le limit offset then Some EFBIG else None)

-- `write_at`: as many bytes as end by the limit, and how many; EFBIG where there are some and none
-- does
abbrev pub write_of : Tree → ℕ → ℕ → List ℕ → Result (ℕ × Tree) ℕ
write_of t ino offset new =
    unless_refused (refused_at (write_refused t.limits.file offset new) (body_at t.records ino))
    (length (fitting t.limits.file offset new))
    (with_changed (overwritten_at t.moment offset (fitting t.limits.file offset new)) ino t)
