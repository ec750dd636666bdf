use Rattle.permission_table.proofs.RowLaws.{row-put}
use Rattle.permission_table.proofs.RowLemmas.{with-are}
use Rattle.permission_table.proofs.laws.a_row_is_put_for_one_application.Goals as goal

pub returns-clause-put : goal.returns-clause-put
returns-clause-put c = row-put

pub returns-clause-order : goal.returns-clause-order
returns-clause-order c = with-are
