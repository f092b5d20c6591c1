use Rattle.std.proofs.Common.{sym, arith, take_all}
use Rattle.std.proofs.lemmas.List.{drop_all}
use Rattle.mount9_run.proofs.report.writing.first_row.Goals as goal

pub returns-then-bytes-lt32-clause-row : goal.returns-then-bytes-lt32-clause-row
returns-then-bytes-lt32-clause-row c = sym (take_all 32 c.args.bytes.now (omega arith))

pub returns-then-bytes-lt32-clause-rest : goal.returns-then-bytes-lt32-clause-rest
returns-then-bytes-lt32-clause-rest c = sym (drop_all 32 c.args.bytes.now (omega arith))
