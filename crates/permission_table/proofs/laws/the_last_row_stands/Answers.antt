use Rattle.permission_table.proofs.RowLaws.{last-stands}
use Rattle.permission_table.proofs.RowLemmas.{stored-are}
use Rattle.permission_table.proofs.laws.the_last_row_stands.Goals as goal

pub returns-clause-last : goal.returns-clause-last
returns-clause-last c = last-stands

pub returns-clause-order : goal.returns-clause-order
returns-clause-order c = stored-are
