-- The first directory, and then each other one behind a colon.
use Rattle.std.proofs.Common.{◌∷◌, [], rules}
use Rattle.std.proofs.lemmas.Grind.{common_steps}
use Rattle.port_base.specs.Quoting.{quoted}
use Rattle.libmount.proofs.BuilderLemmas.{join_words}
use Rattle.libmount.proofs.overlay.write_dirs.Goals as goal

pub returns-after-loop-dir : goal.returns-after-loop-dir
returns-after-loop-dir g c =
    rw (join_words quoted (λ v. v.items) (58 ∷ []) c.args.dirs.now c.in-Some.first.now
    c.in-Some.rest.now c.in-Some.ensures.cases) (search (rules, common_steps))
