use Rattle.portal_model.proofs.FewerRows.{fewer-told}
use Rattle.permission_table.proofs.laws.fewer_rows_can_be_told.Goals as goal

pub returns : goal.returns
returns c = fewer-told
