use Rattle.std.proofs.Common.{◌≡◌, map, take}
use Rattle.libmount.specs.Scripts.{device_at, place_view}
use Rattle.libmount.proofs.script_probe.device_at.Given as goal

abbrev pub invariant-loop-place : goal.invariant-loop-place
invariant-loop-place l = l.found ≡ device_at l.path (map place_view (take l.place-index l.places))
