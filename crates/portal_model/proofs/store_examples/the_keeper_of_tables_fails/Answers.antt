use Rattle.portal_model.proofs.StoreExampleProofs.{faults}
use Rattle.portal_model.proofs.store_examples.the_keeper_of_tables_fails.Goals as goal

pub returns : goal.returns
returns c = faults
