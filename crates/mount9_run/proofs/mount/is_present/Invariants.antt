-- No path so far is the target.
use Rattle.std.proofs.Common.{◌≡◌, drop}
use Rattle.std.specs.List.{list_any}
use Rattle.port_base.specs.Paths.{same_path}
use Rattle.mount9_run.proofs.mount.is_present.Given as goal

abbrev pub invariant-paths : goal.invariant-paths
invariant-paths l = list_any (λ path. same_path l.target path) l.present ≡ list_any
    (λ path. same_path l.target path) (drop l.i l.present)
