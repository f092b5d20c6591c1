-- The mounts that builders ask for, and what the calls answer.
use Rattle.std.specs.Prelude.{◌≡◌, ℕ, List, length, ◌++◌, reverse, slice_index, Bool, true, false}
use Rattle.std.specs.Prelude.{◌==◌, ◌||◌, if◌then◌else◌, Option, Some, None, Result, Ok, Err, ◌⊎◌}
use Rattle.std.specs.Prelude.{Vec, codes}
use Rattle.std.specs.Global.{Global}
use Rattle.std.specs.Option.{option_map}
use Rattle.std.specs.Int.RustNames.{bit_or}
use Rattle.port_base.specs.Flags.{bits_of}
use Rattle.port_base.specs.declared.errno.TheConstants.{EIO}
use Rattle.port_base.specs.Paths.{is_slash}
use Rattle.port_base.specs.declared.flags.MsFlags.{MsFlags}
use Rattle.port_base.specs.declared.flags.TheConstants.MsFlags.{MS_BIND, MS_MOVE, MS_NODEV}
use Rattle.port_base.specs.declared.flags.TheConstants.MsFlags.{MS_NOSUID, MS_RDONLY, MS_REC}
use Rattle.port_base.specs.declared.flags.TheConstants.MsFlags.{MS_REMOUNT}
use Rattle.libmount.specs.declared.errors.Failure.{Failure}
use Rattle.libmount.specs.declared.errors.IoCause.TheVariants.{CurrentDir, MountInfo}
use Rattle.libmount.specs.declared.errors.MountError.{MountError}
use Rattle.libmount.specs.declared.errors.MountError.TheVariants.{Io, NoMemory, Remount}
use Rattle.libmount.specs.declared.errors.OSError.{OSError}
use Rattle.libmount.specs.declared.errors.RemountError.{RemountError}
use Rattle.libmount.specs.declared.errors.RemountError.TheVariants.{Io as NotRead}
use Rattle.libmount.specs.declared.errors.RemountError.TheVariants.{NoMemory as NoRemountMemory}
use Rattle.libmount.specs.declared.errors.RemountError.TheVariants.{ParseMountInfo}
use Rattle.libmount.specs.declared.errors.RemountError.TheVariants.{UnknownMountPoint}
use Rattle.libmount.specs.declared.mounter.MountFault.{MountFault}
use Rattle.libmount.specs.declared.mounter.MountFault.TheVariants.{Errno, Fault}
use Rattle.libmount.specs.declared.mounter.MountFault.TheVariants.{NoMemory as NoMountMemory}
use Rattle.libmount.specs.declared.operation.Operation.{Operation}
use Rattle.libmount.specs.declared.operation.Operation.TheVariants.{Bind as BindOperation}
use Rattle.libmount.specs.declared.operation.Operation.TheVariants.{Remount as RemountOperation}
use Rattle.libmount.specs.Builders.{Bind, FlagChange, InMemory, Layers, Relocation, apply_to_flags}
use Rattle.libmount.specs.Builders.{with_flag}
use Rattle.libmount.specs.BuilderTexts.{overlay_options, tmpfs_options}
use Rattle.libmount.specs.Mounters.{Calls, FaultedIn}
use Rattle.libmount.specs.OperationTexts.{TellsFailure}
use Rattle.libmount.specs.MountTables.{MountCall, MountTable, is_absolute, mount, print_table}
use Rattle.libmount.specs.Probes.{Facts, IsFact}
use Rattle.libmount.specs.ReadBack.{flags_of_last}

abbrev pub move_call : Relocation → MountCall
move_call move = record {
  source = Some move.source;
  target = move.target;
  fstype = None;
  flags =
      bits_of MS_MOVE;
  options = None;
}

abbrev pub overlay_call : Layers → MountCall
overlay_call overlay = record {
  source = Some (codes "overlay");
  target = overlay.target;
  fstype =
      Some (codes "overlay");
  flags = 0;
  options = Some (overlay_options overlay);
}

abbrev pub tmpfs_call : InMemory → MountCall
tmpfs_call tmpfs = record {
  source = Some (codes "tmpfs");
  target = tmpfs.target;
  fstype = Some (codes "tmpfs");
  flags = bit_or (bits_of MS_NOSUID) (bits_of MS_NODEV);
  options = Some (tmpfs_options tmpfs);
}

-- a fault of the mounter is told as EIO
abbrev pub error_of : MountFault → MountError
error_of (Errno errno) = Io errno
error_of Fault = Io EIO
error_of NoMountMemory = NoMemory

abbrev pub ReportsBy : Result (Unit {0}) MountFault → Operation → Result (Unit {0}) OSError → Type 0
ReportsBy (Ok a) operation (Ok b) = Unit {0}
ReportsBy (Ok a) operation (Err error) = ⊥
ReportsBy (Err why) operation (Ok b) = ⊥
ReportsBy (Err why) operation (Err error) = (error.0 ≡ error_of why) × (error.1 ≡ operation)

-- what a mounter answered, with the operation where it failed
pub record Reports (mounted : Result (Unit {0}) MountFault) (operation : Operation)
    (result : Result (Unit {0}) OSError) : Type 0 where
  pub reported : ReportsBy mounted operation result

-- the table's refusal, or EIO for a fault of the mounter
abbrev pub IsCause : Result MountTable ℕ → Calls → Calls → MountError → Type 0
IsCause told before now (Io errno) = ((told ≡ Err errno) × (now ≡ before))
    ⊎ ((errno ≡ EIO) × FaultedIn before now)
IsCause told before now (Remount error) = ⊥
IsCause told before now NoMemory = now ≡ before

abbrev pub MountsBy : Result MountTable ℕ → Operation → MountTable → MountTable → Calls → Calls
    → Result (Unit {0}) OSError → Type 0
MountsBy told operation old new before now (Ok x) = (told ≡ Ok new) × (now ≡ before)
MountsBy told operation old new before now (Err error) = (error.1 ≡ operation) × (new ≡ old)
    × IsCause told before now error.0

-- one mount: the table is the one that a definition gives, or as it was, with the operation and
-- its cause
pub record MountsBare (told : Result MountTable ℕ) (operation : Operation) (old new : MountTable)
    (before now : Calls) (result : Result (Unit {0}) OSError) : Type 0 where
  pub mounted : MountsBy told operation old new before now result

-- ---- changes of flags

-- a relative path behind the current directory, with a slash between them where that directory
-- neither is empty nor ends in one
abbrev pub below : List ℕ → List ℕ → List ℕ
below dir path = if (length dir == 0) || is_slash (slice_index (reverse dir) 0) then dir ++ path
    else dir ++ (codes "/" ++ path)

abbrev pub IsPlaceBy : Bool → Option Facts → List ℕ → List ℕ → Type 0
IsPlaceBy true facts path place = place ≡ path
IsPlaceBy false facts path place = IsFact facts (λ f. below f.dir path) place

-- the absolute path that a path stands for
abbrev pub IsPlace : Option Facts → List ℕ → List ℕ → Type 0
IsPlace facts path place = IsPlaceBy (is_absolute path) facts path place

abbrev pub PlaceBy : Option Facts → List ℕ → Result (Vec ℕ Global) RemountError → Calls → Calls
    → Type 0
PlaceBy facts path (Ok place) old new = IsPlace facts path place.items × (new ≡ old)
PlaceBy facts path (Err (NotRead CurrentDir)) old new = FaultedIn old new
PlaceBy facts path (Err NoRemountMemory) old new = new ≡ old
PlaceBy facts path (Err _) old new = ⊥

-- the place is told, or why it isn't
pub record TellsPlace (facts : Option Facts) (path : List ℕ)
    (result : Result (Vec ℕ Global) RemountError) (old new : Calls) : Type 0 where
  pub place : PlaceBy facts path result old new

abbrev pub FlagsBy : Option ℕ → Result (Option MsFlags) RemountError → Calls → Calls → Type 0
FlagsBy told (Ok found) old new = (told ≡ option_map bits_of found) × (new ≡ old)
FlagsBy told (Err (NotRead CurrentDir)) old new = ⊥
FlagsBy told (Err (NotRead MountInfo)) old new = FaultedIn old new
FlagsBy told (Err (ParseMountInfo message)) old new = ⊥
FlagsBy told (Err (UnknownMountPoint path)) old new = ⊥
FlagsBy told (Err NoRemountMemory) old new = new ≡ old

-- the flags of a place, read from a printed table, or why they aren't told: a printed table can be
-- read
pub record TellsFlags (told : Option ℕ)
    (result : Result (Option MsFlags) RemountError) (old new : Calls) : Type 0 where
  pub flags : FlagsBy told result old new

abbrev pub PrintsBy : MountTable → Result (Vec ℕ Global) RemountError → Calls → Calls → Type 0
PrintsBy table (Ok text) old new = (text.items ≡ print_table table) × (new ≡ old)
PrintsBy table (Err (NotRead MountInfo)) old new = FaultedIn old new
PrintsBy table (Err NoRemountMemory) old new = new ≡ old
PrintsBy table (Err _) old new = ⊥

-- a table's text, or why it isn't told
pub record Prints (table : MountTable) (result : Result (Vec ℕ Global) RemountError)
    (old new : Calls) : Type 0 where
  pub printed : PrintsBy table result old new

-- the mount that changes the flags of a place
abbrev pub remount_call : FlagChange → List ℕ → ℕ → MountCall
remount_call change place flags = record {
  source = None;
  target = place;
  fstype = None;
  flags = bit_or (apply_to_flags change flags) (bits_of MS_REMOUNT);
  options = None;
}

-- the place was found, with the flags of the last mount there, and mounted with the changed ones
pub record ChangesFlags (facts : Option Facts) (change : FlagChange) (old : MountTable)
    (told : Result MountTable ℕ) : Type 0 where
  pub place : List ℕ
  pub flags : ℕ
  pub is_place : IsPlace facts change.path place
  pub were : flags_of_last place old.rows ≡ Some flags
  pub mounted : mount (remount_call change place flags) old ≡ told

-- who was called: the calls of a mounter and of a probe
pub record BothCalls : Type 0 where
  pub mounter : Calls
  pub probe : Calls

abbrev pub IsRemountCause : Option Facts → FlagChange → MountTable → BothCalls → BothCalls
    → MountError → Type 0
IsRemountCause facts change table old new (Io errno) =
    (ChangesFlags facts change table (Err errno) × (new ≡ old))
    ⊎ ((errno ≡ EIO) × FaultedIn old.mounter new.mounter × (new.probe ≡ old.probe))
IsRemountCause facts change table old new (Remount (NotRead CurrentDir)) =
    FaultedIn old.probe new.probe × (new.mounter ≡ old.mounter)
IsRemountCause facts change table old new (Remount (NotRead MountInfo)) =
    FaultedIn old.mounter new.mounter × (new.probe ≡ old.probe)
IsRemountCause facts change table old new (Remount (ParseMountInfo message)) = ⊥
IsRemountCause facts change table old new (Remount (UnknownMountPoint place)) =
    IsPlace facts change.path place.items
    × (flags_of_last place.items table.rows ≡ None) × (new ≡ old)
IsRemountCause facts change table old new (Remount NoRemountMemory) = new ≡ old
IsRemountCause facts change table old new NoMemory = new ≡ old

abbrev pub TriesBy : Option Facts → FlagChange → MountTable → MountTable → BothCalls → BothCalls
    → Result (Unit {0}) MountError → Type 0
TriesBy facts change old new before now (Ok x) = ChangesFlags facts change old (Ok new)
    × (now ≡ before)
TriesBy facts change old new before now (Err error) = (new ≡ old)
    × IsRemountCause facts change old before now error

pub record Tries (facts : Option Facts) (change : FlagChange) (old new : MountTable)
    (before now : BothCalls) (result : Result (Unit {0}) MountError) : Type 0 where
  pub tried : TriesBy facts change old new before now result

abbrev pub RemountsBy : Option Facts → FlagChange → MountTable → MountTable → BothCalls
    → BothCalls → Result (Unit {0}) OSError → Type 0
RemountsBy facts change old new before now (Ok x) = TriesBy facts change old new before now (Ok x)
RemountsBy facts change old new before now (Err error) = (error.1 ≡ RemountOperation change)
    × TriesBy facts change old new before now (Err error.0)

-- a change of flags: the table is the one that a definition gives, or as it was, with the
-- operation and its cause
pub record RemountsBare (facts : Option Facts) (change : FlagChange) (old new : MountTable)
    (before now : BothCalls) (result : Result (Unit {0}) OSError) : Type 0 where
  pub mounted : RemountsBy facts change old new before now result

-- ---- binds

abbrev pub bind_flags : Bool → ℕ
bind_flags true = bit_or (bits_of MS_BIND) (bits_of MS_REC)
bind_flags false = bits_of MS_BIND

abbrev pub bind_call : Bind → MountCall
bind_call bind = record {
  source = Some bind.source;
  target = bind.target;
  fstype = None;
  flags = bind_flags bind.recursive;
  options = None;
}

-- the change that makes a bind read-only
abbrev pub read_only_change : Bind → FlagChange
read_only_change bind = with_flag (bits_of MS_RDONLY) true (with_flag (bits_of MS_BIND) true
    (record { path = bind.target; set = 0; cleared = 0 }))

-- the bind was made, and then the change to read-only was tried: where that fails the bind stays
pub record BindsThenChanges (facts : Option Facts) (bind : Bind) (old new : MountTable)
    (before now : BothCalls) (result : Result (Unit {0}) OSError) : Type 0 where
  pub bound : MountTable
  pub mounted : mount (bind_call bind) old ≡ Ok bound
  pub changed : RemountsBare facts (read_only_change bind) bound new before now result

-- the bind failed
pub record BindFails (bind : Bind) (old new : MountTable) (before now : BothCalls)
    (result : Result (Unit {0}) OSError) : Type 0 where
  pub failed : result ≡ Ok tt → ⊥
  pub bare : MountsBare (mount (bind_call bind) old) (BindOperation bind) old new before.mounter
      now.mounter result
  pub probe : now.probe ≡ before.probe

abbrev pub BindsBy : Bool → Option Facts → Bind → MountTable → MountTable → BothCalls → BothCalls
    → Result (Unit {0}) OSError → Type 0
BindsBy false facts bind old new before now result =
    MountsBare (mount (bind_call bind) old) (BindOperation bind) old new before.mounter now.mounter
    result × (now.probe ≡ before.probe)
BindsBy true facts bind old new before now result =
    BindFails bind old new before now result
    ⊎ BindsThenChanges facts bind old new before now result

-- a bind: one mount, and where it is to be read-only a change of flags that follows
pub record BindsBare (facts : Option Facts) (bind : Bind) (old new : MountTable)
    (before now : BothCalls) (result : Result (Unit {0}) OSError) : Type 0 where
  pub bound : BindsBy bind.readonly facts bind old new before now result

-- ---- explained calls

-- an operation did what it does without an explanation, and then its error was explained
pub record Ends (Did : Result (Unit {0}) OSError → Calls → Type 0) (facts : Option Facts)
    (result : Result (Unit {0}) Failure) (now : Calls) : Type 0 where
  pub bare : Result (Unit {0}) OSError
  pub probe : Calls
  pub did : Did bare probe
  pub told : TellsFailure facts bare result probe now
