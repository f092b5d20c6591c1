-- The first directory, and then each other one behind a colon.
use Rattle.std.proofs.Common.{◌∷◌, [], arith}
use Rattle.std.proofs.lemmas.Grind.{common_steps}
use Rattle.libmount.specs.BuilderTexts.{escaped_dir}
use Rattle.libmount.proofs.BuilderLemmas.{join_words}
use Rattle.libmount.proofs.overlay.push_dirs.Goals as goal

pub returns-after-loop-dir : goal.returns-after-loop-dir
returns-after-loop-dir c =
    rw (join_words escaped_dir (λ v. v.items) (58 ∷ []) c.args.dirs.now c.in-Some.first.now
    c.in-Some.rest.now c.in-Some.ensures.cases) (grind (arith, common_steps))
