-- What a builder's call answers, from what the mounter answered.
use Rattle.std.proofs.Common.{◌≡◌, ℕ, Result, Ok, Err, inl, inr, refl}
use Rattle.std.specs.Prelude.{bit_or, true}
use Rattle.std.proofs.lemmas.Nat.{and_or_self}
use Rattle.port_base.specs.Flags.{bits_of}
use Rattle.port_base.specs.declared.flags.TheConstants.MsFlags.{MS_REMOUNT}
use Rattle.libmount.specs.declared.errors.OSError.{OSError}
use Rattle.libmount.specs.declared.mounter.MountFault.{MountFault}
use Rattle.libmount.specs.declared.mounter.MountFault.TheVariants.{Errno, Fault, NoMemory}
use Rattle.libmount.specs.declared.operation.Operation.{Operation}
use Rattle.libmount.specs.Mounters.{Calls, Caused, CausedBy, Leaves, LeavesBy, is_remount}
use Rattle.libmount.specs.Mountings.{IsCause, MountsBare, MountsBy, Reports, ReportsBy, error_of}
use Rattle.libmount.specs.MountTables.{MountTable}

cause_of : (told : Result MountTable ℕ) (old new : MountTable) (before now : Calls)
    (fault : MountFault) →
    LeavesBy {A = Unit {0}} told old new (Err fault)
    → CausedBy {A = Unit {0}} before now (Err fault) → (new ≡ old)
    × IsCause told before now (error_of fault)
cause_of told old new before now (Errno errno) leaves cause = (leaves.1, inl (leaves.0, cause))
cause_of told old new before now Fault leaves cause = (leaves, inr (refl, cause))
cause_of told old new before now NoMemory leaves cause = (leaves, cause)

mounts_by : (told : Result MountTable ℕ) (operation : Operation) (old new : MountTable)
    (before now : Calls) (mounted : Result (Unit {0}) MountFault)
    (result : Result (Unit {0}) OSError) →
    LeavesBy told old new mounted → CausedBy before now mounted → ReportsBy mounted operation result
    → MountsBy told operation old new before now result
mounts_by told operation old new before now (Ok a) (Ok b) leaves cause reports = (leaves, cause)
mounts_by told operation old new before now (Ok a) (Err error) leaves cause reports = absurd reports
mounts_by told operation old new before now (Err why) (Ok b) leaves cause reports = absurd reports
mounts_by told operation old new before now (Err why) (Err error) leaves cause reports =
    let by_fault = cause_of told old new before now why leaves cause
    in (reports.1, by_fault.0, rw (reports.0) by_fault.1)

pub bare_of : (told : Result MountTable ℕ) (operation : Operation) (old new : MountTable)
    (before now : Calls) (mounted : Result (Unit {0}) MountFault)
    (result : Result (Unit {0}) OSError) →
    Leaves told old new mounted → Caused before now mounted → Reports mounted operation result
    → MountsBare told operation old new before now result
bare_of told operation old new before now mounted result leaves caused reports =
    record {
      mounted = mounts_by told operation old new before now mounted result leaves.exactly
          caused.cause reports.reported;
    }

-- a mount with the flag of a change is one
pub asks_a_change : (flags : ℕ) → is_remount (bit_or flags (bits_of MS_REMOUNT)) ≡ true
asks_a_change flags = rw (and_or_self (bits_of MS_REMOUNT) flags) refl
