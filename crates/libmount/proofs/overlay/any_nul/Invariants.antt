use Rattle.std.proofs.Common.{◌≡◌, drop}
use Rattle.std.specs.List.{list_any}
use Rattle.port_base.specs.Words.{words_of}
use Rattle.libmount.specs.Builders.{has_nul}
use Rattle.libmount.proofs.overlay.any_nul.Given as goal

abbrev pub invariant-loop-path : goal.invariant-loop-path
invariant-loop-path l = list_any has_nul (words_of l.paths) ≡ list_any has_nul
    (words_of (drop l.path-index l.paths))
