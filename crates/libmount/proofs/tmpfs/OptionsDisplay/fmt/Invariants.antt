use Rattle.std.proofs.Common.{◌≡◌, take}
use Rattle.std.specs.Prelude.{codes}
use Rattle.std.specs.Fmt.{HasWritten, IsPlainFormatter}
use Rattle.std.specs.List.{filter_map}
use Rattle.libmount.specs.BuilderTexts.{options_text}
use Rattle.libmount.proofs.BuilderLemmas.{between}
use denote.Shadow.{shadow}
use denote.Text.{Utf8}
use Rattle.libmount.proofs.tmpfs.OptionsDisplay.fmt.Given as goal

abbrev pub invariant-loop-option : goal.invariant-loop-option
invariant-loop-option g l =
    (IsPlainFormatter l.initial.f → HasWritten g.W.Write.write_str_gives l.initial.f
    (options_text (take l.option-index l.options)) l.f)
    × (l.separator ≡ between (codes ",") (filter_map (λ option. option)
    (take l.option-index l.options)))
    × shadow (Utf8 l.separator)
