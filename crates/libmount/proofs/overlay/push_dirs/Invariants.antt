use Rattle.std.proofs.Common.{◌≡◌, ◌++◌, ℕ, take}
use Rattle.std.specs.Prelude.{codes, Vec}
use Rattle.std.specs.Global.{Global}
use Rattle.std.specs.List.{flat_map}
use Rattle.libmount.specs.BuilderTexts.{escaped_dir}
use Rattle.libmount.proofs.overlay.push_dirs.Given as goal

abbrev pub invariant-loop-dir : goal.invariant-loop-dir
invariant-loop-dir l = l.out.items ≡ l.initial.out.items
    ++ flat_map (λ (dir : Vec ℕ Global). codes ":" ++ escaped_dir dir.items)
    (take l.dir-index l.rest)
