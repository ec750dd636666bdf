use Rattle.portal_model.proofs.StoreExampleProofs.{costs}
use Rattle.portal_model.proofs.store_examples.calls_cost_their_texts.Goals as goal

pub returns : goal.returns
returns c = costs
