use Rattle.portal_model.proofs.StoreExampleProofs.{deletions}
use Rattle.portal_model.proofs.store_examples.deletions_are_told.Goals as goal

pub returns : goal.returns
returns c = deletions
