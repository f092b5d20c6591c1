use Rattle.std.proofs.Common.{◌≡◌, map, take}
use Rattle.std.specs.Prelude.{codes, filter}
use Rattle.std.specs.Fmt.{HasWritten, IsPlainFormatter}
use Rattle.port_base.specs.Flags.{bits_of}
use Rattle.libmount.specs.BuilderTexts.{is_set, named, names_of}
use Rattle.libmount.proofs.BuilderLemmas.{between}
use denote.Shadow.{shadow}
use denote.Text.{Utf8}
use Rattle.libmount.proofs.flag_change.SetNamesDisplay.fmt.Given as goal

abbrev pub invariant-loop-row : goal.invariant-loop-row
invariant-loop-row g l =
    (IsPlainFormatter l.initial.f → HasWritten g.W.Write.write_str_gives l.initial.f
    (names_of (bits_of l.self.0) (map named (take l.row-index l.row-items))) l.f)
    × (l.separator ≡ between (codes ",") (filter (is_set (bits_of l.self.0))
    (map named (take l.row-index l.row-items))))
    × shadow (Utf8 l.separator)
