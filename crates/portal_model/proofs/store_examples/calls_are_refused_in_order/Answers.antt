use Rattle.portal_model.proofs.StoreExampleProofs.{order}
use Rattle.portal_model.proofs.store_examples.calls_are_refused_in_order.Goals as goal

pub returns : goal.returns
returns c = order
