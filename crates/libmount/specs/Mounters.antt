-- What the calls of a mounter and of a probe promise.
use Rattle.std.specs.Prelude.{◌≡◌, ◌<◌, ◌+◌, ◌-◌, ◌^◌, ℕ, length, All, Bool, true, false, Option}
use Rattle.std.specs.Prelude.{Some, None, Result, Ok, Err, slice_get, bit_and, codes}
use Rattle.port_base.specs.Faults.{Faulted}
use Rattle.port_base.specs.Flags.{bits_of}
use Rattle.port_base.specs.declared.flags.TheConstants.MsFlags.{MS_REMOUNT}
use Rattle.libmount.specs.declared.mounter.MountFault.{MountFault}
use Rattle.libmount.specs.declared.mounter.MountFault.TheVariants.{Errno, Fault, NoMemory}
use Rattle.libmount.specs.MountOptions.{shown_flags}
use Rattle.libmount.specs.MountTables.{Mount, MountTable, has, is_absolute}

-- ---- faults

-- how many faults were counted, and whether no call faults
pub record Calls : Type 0 where
  pub faults : ℕ
  pub steady : Bool

-- a fault was counted, at something that isn't sure
abbrev pub FaultedIn : Calls → Calls → Type 0
FaultedIn old new = Faulted old.faults new.faults × (old.steady ≡ false) × (new.steady ≡ false)

-- a fault is counted, and comes only where not every call is sure; every other answer leaves the
-- count
abbrev pub CausedBy : {A : Type 0} → Calls → Calls → Result A MountFault → Type 0
CausedBy old new (Ok x) = new ≡ old
CausedBy old new (Err (Errno e)) = new ≡ old
CausedBy old new (Err Fault) = FaultedIn old new
CausedBy old new (Err NoMemory) = new ≡ old

pub record Caused {A : Type 0} (old new : Calls) (result : Result A MountFault) : Type 0 where
  pub cause : CausedBy old new result

-- ---- tables

abbrev pub is_remount : ℕ → Bool
is_remount flags = has flags (bits_of MS_REMOUNT)

-- numbers are left for a mount, also for one that copies all rows
abbrev pub HasRoom : MountTable → Type 0
HasRoom table = (table.next_minor < 2 ^ 64 - 1) × (table.next_id + length table.rows < 2 ^ 64 - 1)

abbrev pub LeavesBy : {A : Type 0} → Result MountTable ℕ → MountTable → MountTable
    → Result A MountFault → Type 0
LeavesBy told old new (Ok x) = told ≡ Ok new
LeavesBy told old new (Err (Errno e)) = (told ≡ Err e) × (new ≡ old)
LeavesBy told old new (Err Fault) = new ≡ old
LeavesBy told old new (Err NoMemory) = new ≡ old

-- the new table or the refusal are those that a definition gives; after every error the table is
-- as it was
pub record Leaves {A : Type 0} (told : Result MountTable ℕ) (old new : MountTable)
    (result : Result A MountFault) : Type 0 where
  pub exactly : LeavesBy told old new result

-- a row whose texts are there, whose numbers are below the next ones, and whose flags are those
-- that are shown
pub record IsGoodRow (table : MountTable) (row : Mount) : Type 0 where
  pub id : row.id < table.next_id
  pub parent : row.parent < table.next_id
  pub minor : row.minor < table.next_minor
  pub root : is_absolute row.root ≡ true
  pub point : is_absolute row.point ≡ true
  pub flags : bit_and row.flags shown_flags ≡ row.flags
  pub fstype : 0 < length row.fstype
  pub source : 0 < length row.source
  pub super_options : 0 < length row.super_options

-- the first row is that of `/`, whose number is 1
abbrev pub IsRootRow : Option Mount → Type 0
IsRootRow None = ⊥
IsRootRow (Some row) = (row.id ≡ 1) × (row.parent ≡ 1) × (row.point ≡ codes "/")

pub record IsGoodTable (table : MountTable) : Type 0 where
  pub top : IsRootRow (slice_get table.rows 0)
  pub rows : All (IsGoodRow table) table.rows
  pub next_id : table.next_id < 2 ^ 64
  pub next_minor : table.next_minor < 2 ^ 64
