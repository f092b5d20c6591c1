-- The base is stripped from the front exactly where the path begins with it.
use Rattle.std.proofs.Common.{◌∙◌, sym, ap}
use Rattle.std.specs.Prelude.{is_some}
use Rattle.port_base.specs.Paths.{components, components_left, path_starts_with}
use Rattle.port_base.proofs.PathWalks.{is_some-map, strip-starts}
use Rattle.port_base.proofs.paths.path_starts_with.Goals as goal

pub returns : goal.returns
unfolding path_starts_with
returns c =
    c.is_some.ensures ∙ sym (is_some-map components_left c.strip.result)
    ∙ ap is_some c.strip.ensures
    ∙ (rw (c.new.ensures, c.new-2.ensures) (strip-starts (components c.args.path.now)
    (components c.args.base.now)))
