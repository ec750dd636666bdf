use Rattle.portal_model.proofs.StoreExampleProofs.{readings}
use Rattle.portal_model.proofs.store_examples.entries_are_read.Goals as goal

pub returns : goal.returns
returns c = readings
