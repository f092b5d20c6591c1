-- Field by field, and line by line.
use Rattle.libmount.proofs.PrintedTables.{good_row_shown, table_shown}
use Rattle.libmount.proofs.table_laws.printed_tables_are_read_back.Goals as goal

pub returns-clause-row : goal.returns-clause-row
returns-clause-row c = good_row_shown

pub returns-clause-table : goal.returns-clause-table
returns-clause-table c = table_shown
