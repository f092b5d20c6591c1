-- What the parts so far tell.
use Rattle.std.proofs.Common.{◌≡◌, map, Ok, false}
use Rattle.std.specs.Prelude.{fold}
use Rattle.p9_server.specs.ConfigTexts.{with_part}
use Rattle.p9_server.proofs.config_text.casefold_of.Given as goal

abbrev pub invariant-loop-part : goal.invariant-loop-part
invariant-loop-part l = l.read ≡ fold with_part (Ok false) (map (λ p. p.now) l.yielded)
