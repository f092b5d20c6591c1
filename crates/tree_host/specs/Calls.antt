-- How the calls of a host fail.
use Rattle.std.specs.Prelude.{◌≡◌, ℕ, Bool, true, false, Option, Some, None, Result, Ok, Err}
use Rattle.port_base.specs.Faults.{Faulted}
use Rattle.port_base.specs.Failing.{Script, CountedCalls, is_due, after_call, is_quiet}
use Rattle.tree_model.specs.declared.attributes.HostError.{HostError}
use Rattle.tree_model.specs.declared.attributes.HostError.TheVariants.{Errno, Fault, NoMemory}

-- how many faults were counted, whether no call faults, and, where it is told, which calls do
pub record Calls : Type 0 where
  pub faults : ℕ
  pub steady : Bool
  pub script : Option Script

-- those of a host that goes by a script
abbrev pub scripted : CountedCalls → Calls
scripted calls = record {
  faults = calls.faults;
  steady = is_quiet calls.script;
  script = Some calls.script;
}

-- ---- counts of faults

abbrev pub CauseBy : {A : Type 0} → Bool → ℕ → ℕ → Result A HostError → Type 0
CauseBy steady before now (Ok a) = now ≡ before
CauseBy steady before now (Err (Errno e)) = now ≡ before
CauseBy steady before now (Err Fault) = Faulted before now × (steady ≡ false)
CauseBy steady before now (Err NoMemory) = now ≡ before

-- a fault is counted, and comes only where the host isn't steady; every other answer leaves the
-- count
pub record Causes {A : Type 0} (steady : Bool) (before now : ℕ)
    (result : Result A HostError) : Type 0 where
  pub counted : CauseBy steady before now result

-- ---- scripts

abbrev pub is_fault : {A : Type 0} → Result A HostError → Bool
is_fault (Ok a) = false
is_fault (Err (Errno e)) = false
is_fault (Err Fault) = true
is_fault (Err NoMemory) = false

-- a call faults exactly where the script lists it; a host that tells no script goes on telling none
abbrev pub Follows : {A : Type 0} → Option Script → Option Script → Result A HostError → Type 0
Follows None new result = new ≡ None
Follows (Some s) new result = (new ≡ Some (after_call s)) × (is_fault result ≡ is_due s)

-- what one call does to them
pub record Caused {A : Type 0} (old new : Calls) (result : Result A HostError) : Type 0 where
  pub cause : Causes old.steady old.faults new.faults result
  pub steady : new.steady ≡ old.steady
  pub script : Follows old.script new.script result
