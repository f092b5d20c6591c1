-- All names were looked at.
use Rattle.std.proofs.Common.{◌∙◌, ◌++◌, ap, map}
use Rattle.std.proofs.lemmas.List.{take_all}
use Rattle.std.specs.Prelude.{filter}
use Rattle.std.specs.List.{flat_map}
use Rattle.port_base.specs.Flags.{bits_of}
use Rattle.libmount.specs.BuilderTexts.{is_set}
use Rattle.libmount.specs.MountOptions.{behind_comma, option_names}
use Rattle.libmount.specs.MountTables.{read_or_write}
use Rattle.fuse_mnt.specs.Tables.{named}
use Rattle.fuse_mnt.proofs.rows.options_of.Goals as goal

pub returns : goal.returns
unfolding option_names
returns c = c.loop-shown.invariant
    ∙ ap (λ rows. read_or_write (bits_of c.args.flags)
    ++ flat_map behind_comma (filter (is_set (bits_of c.args.flags)) rows))
    (ap (map named) (take_all _ _ c.loop-shown-test.false) ∙ c.shown_names-shown-items.ensures)
