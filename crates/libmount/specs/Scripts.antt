-- Probes that go by a script.
use Rattle.std.specs.Prelude.{ℕ, List, Option, Some, None, map, if◌then◌else◌}
use Rattle.std.specs.Option.{is_some}
use Rattle.std.specs.List.{fold}
use Rattle.port_base.specs.Failing.{CountedCalls, Script, is_due, is_quiet}
use Rattle.port_base.specs.Paths.{same_path}
use Rattle.libmount.specs.declared.probe.User.{User}
use Rattle.libmount.specs.declared.script_probe.Placed.{Placed}
use Rattle.libmount.specs.declared.script_probe.ScriptProbe.{ScriptProbe}
use Rattle.libmount.specs.Mounters.{Calls}
use Rattle.libmount.specs.Probes.{Facts}

-- a path where there is something, and its device
pub record Place : Type 0 where
  pub path : List ℕ
  pub device : ℕ

abbrev pub place_view : Placed → Place
place_view placed = record { path = placed.path.items; device = placed.device }

abbrev pub nearest : List ℕ → Option ℕ → Place → Option ℕ
nearest path found place = if same_path place.path path then Some place.device else found

-- the device of the last place that is at the path
abbrev pub device_at : List ℕ → List Place → Option ℕ
device_at path places = fold (nearest path) None places

abbrev pub facts_of : User → List ℕ → List Place → Facts
facts_of user dir places = record {
  exists = λ path. is_some (device_at path places);
  device = λ path. device_at path places;
  user = user;
  dir = dir;
}

-- the facts of a probe: they are told
abbrev pub told_of : ScriptProbe → Option Facts
told_of p = Some (facts_of p.user p.dir.items (map place_view p.places.items))

-- the faults of calls that fail by their numbers
abbrev pub calls_of : CountedCalls → Calls
calls_of calls = record { faults = calls.faults; steady = is_quiet calls.script }

-- what a call answers: its fault where the script lists it, else the fact
abbrev pub answer_of : {A : Type 0} → Script → A → A → A
answer_of script fault fact = if is_due script then fault else fact
