use Rattle.portal_start.proofs.RenewedLists.{held_rows}
use Rattle.portal_start.proofs.renewed.opening_of.Goals as goal

pub returns-clause-rows : goal.returns-clause-rows
returns-clause-rows c = held_rows c.args.tables.now c.entries.ensures.kept.held
