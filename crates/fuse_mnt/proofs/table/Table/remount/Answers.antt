-- The flags of the last row at the target change.
use Rattle.std.proofs.Common.{◌∙◌, sym, ap}
use Rattle.libmount.specs.MountTables.{Mount}
use Rattle.libmount.specs.MountOptions.{shown_flags}
use Rattle.port_base.specs.Flags.{bits_of}
use Rattle.std.specs.Int.RustNames.{bit_and}
use Rattle.fuse_mnt.proofs.LookupLemmas.{remounted_as}
use Rattle.fuse_mnt.proofs.table.Table.remount.Goals as goal

pub returns-in-Some-clause-leaves : goal.returns-in-Some-clause-leaves
returns-in-Some-clause-leaves c call target flags =
    let row : Mount = record {
      id = c.row.inside.id;
      parent = c.row.inside.parent;
      minor = c.row.inside.minor;
      root = c.row.inside.root.items;
      point = c.row.inside.point.items;
      flags = bits_of c.row.inside.flags;
      fstype = c.row.inside.fstype.items;
      source = c.row.inside.source.items;
      super_options = c.row.inside.super_options.items;
    } in
    record {
      exactly = rw (← c.self.view_is) (remounted_as call _ c.in-Some.at row _
          (rw (target, ← c.deref.ensures.value) c.in-Some.ensures)
          (rw (c.row.view_is) c.index_mut-row.ensures.value)
          (c.shown-row-inside.ensures ∙ ap (λ b. bit_and b shown_flags) (sym flags)));
    }
