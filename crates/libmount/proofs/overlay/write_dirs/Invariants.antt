use Rattle.std.proofs.Common.{◌++◌, ℕ, take}
use Rattle.std.specs.Prelude.{codes, Vec}
use Rattle.std.specs.Global.{Global}
use Rattle.std.specs.Fmt.{HasWritten, IsPlainFormatter}
use Rattle.std.specs.List.{flat_map}
use Rattle.port_base.specs.Quoting.{quoted}
use Rattle.libmount.proofs.overlay.write_dirs.Given as goal

abbrev pub invariant-loop-dir : goal.invariant-loop-dir
invariant-loop-dir g l =
    IsPlainFormatter l.initial.f →
    HasWritten g.W.Write.write_str_gives l.initial.f
    (flat_map (λ (dir : Vec ℕ Global). codes ":" ++ quoted dir.items) (take l.dir-index l.rest))
    l.f
