-- Changes of one record, each refused or made.
use Rattle.std.specs.Prelude.{◌≡◌, ℕ, Bool, true, false, Option, Some, None, Result, Ok, Err}
use Rattle.tree_model.specs.declared.attributes.Stamp.{Stamp}
use Rattle.tree_model.specs.declared.attributes.HostError.{HostError}
use Rattle.tree_model.specs.declared.attributes.HostError.TheVariants.{Errno, Fault, NoMemory}
use Rattle.tree_model.specs.Tree.{Tree, Record, Body}
use Rattle.tree_model.specs.Attributing.{restamped, never, touch_ctime_of, remoded}
use Rattle.tree_model.specs.Attributing.{refused_for_link, set_mode_of, owned_by, set_owner_of}
use Rattle.tree_model.specs.Attributing.{retimed, times_refused, set_times_of, resized}
use Rattle.tree_model.specs.Attributing.{rewritten_at, len_refused, set_len_of}
use Rattle.tree_host.specs.declared.change.Change.{Change}
use Rattle.tree_host.specs.declared.change.Change.TheVariants.{Ctime, Mode, Owner, Times, Len}

-- what refuses a change of a body
abbrev pub change_refused : Change → ℕ → Body → Option ℕ
change_refused Ctime limit = never
change_refused (Mode mode) limit = refused_for_link
change_refused (Owner uid gid) limit = never
change_refused (Times atime mtime) limit = times_refused atime mtime
change_refused (Len len) limit = len_refused limit len

-- a record as it is changed
abbrev pub changed_by : Change → Stamp → Record → Record
changed_by Ctime moment = restamped moment
changed_by (Mode mode) moment = remoded mode moment
changed_by (Owner uid gid) moment = owned_by uid gid moment
changed_by (Times atime mtime) moment = retimed atime mtime moment
changed_by (Len len) moment = rewritten_at moment (resized len)

-- the call that makes a change
abbrev pub change_of : Change → Tree → ℕ → Result (Unit {0} × Tree) ℕ
change_of Ctime t ino = touch_ctime_of t ino
change_of (Mode mode) t ino = set_mode_of t ino mode
change_of (Owner uid gid) t ino = set_owner_of t ino uid gid
change_of (Times atime mtime) t ino = set_times_of t ino atime mtime
change_of (Len len) t ino = set_len_of t ino len

-- whether a change takes no memory
abbrev pub is_small : Change → Bool
is_small Ctime = true
is_small (Mode mode) = true
is_small (Owner uid gid) = true
is_small (Times atime mtime) = true
is_small (Len len) = false

abbrev pub MakesBy : {X : Type 0} → Option ℕ → X → X → X → Result (Unit {0}) HostError → Type 0
MakesBy refused made old new (Ok u) = (refused ≡ None) × (new ≡ made)
MakesBy refused made old new (Err (Errno e)) = (refused ≡ Some e) × (new ≡ old)
MakesBy refused made old new (Err Fault) = ⊥
MakesBy refused made old new (Err NoMemory) = new ≡ old

-- what changes is as it is to be, or, after a refusal or when out of memory, as it was
pub record Makes {X : Type 0} (refused : Option ℕ) (made old new : X)
    (result : Result (Unit {0}) HostError) : Type 0 where
  pub exactly : MakesBy refused made old new result
