use Rattle.permission_table.proofs.HeldRecords.{held-differ, held-valid}
use Rattle.permission_table.proofs.laws.what_tables_hold_is_valid.Goals as goal

pub returns-clause-differ : goal.returns-clause-differ
returns-clause-differ c = held-differ

pub returns-clause-valid : goal.returns-clause-valid
returns-clause-valid c = held-valid
