use Rattle.portal_model.proofs.StoreExampleProofs.{rows}
use Rattle.portal_model.proofs.store_examples.rows_go_away.Goals as goal

pub returns : goal.returns
returns c = rows
