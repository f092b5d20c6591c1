-- Where there is no row the root shows all paths.
use Rattle.std.proofs.Common.{◌≡◌, arith, length}
use Rattle.std.proofs.lemmas.Bool.Decides.{nat_tests}
use Rattle.fuse_mnt.proofs.LookupLemmas.{cover_none}
use Rattle.fuse_mnt.proofs.lookups.cover_id.Goals as goal

pub returns-then-is_empty : goal.returns-then-is_empty
returns-then-is_empty c =
    let none : length c.args.rows.now ≡ 0 = grind (arith, nat_tests) in
    cover_none c.args.path.now c.args.rows.now none
