-- A name without a fault is a text.
use Rattle.std.proofs.Common.{arith}
use Rattle.fid_model.proofs.Names.{name_is_text}
use Rattle.p9_pair.proofs.changes.of_a_link.Goals as goal

pub symlink-requires-clause-text : goal.symlink-requires-clause-text
symlink-requires-clause-text g c =
    let text = name_is_text c.args.name.now c.requires.named in
    (omega (arith, text.0), text.1)
