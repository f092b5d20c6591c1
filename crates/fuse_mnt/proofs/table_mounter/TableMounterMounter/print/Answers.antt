-- The table is good, so what it prints is read back.
use Rattle.std.proofs.Common.{◌≡◌, IfOk, rules}
use Rattle.libmount.specs.MountTables.{print_table}
use Rattle.fuse_mnt.proofs.PrintLemmas.{read_back}
use Rattle.fuse_mnt.proofs.table_mounter.TableMounterMounter.print.Goals as goal

pub returns-clause-read_back : goal.returns-clause-read_back
returns-clause-read_back c =
    let printed :
    IfOk c.map_err.result (λ text. text.items ≡ print_table c.args.self.now.table) = search rules in
    read_back c.args.self.now.table c.map_err.result c.args.self.now.kept printed
