use Rattle.portal_model.proofs.ExampleProofs.{costs}
use Rattle.portal_model.proofs.examples.costs_of_requests.Goals as goal

pub returns : goal.returns
returns c = costs
