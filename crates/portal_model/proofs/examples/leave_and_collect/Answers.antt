use Rattle.portal_model.proofs.ExampleProofs.{endings}
use Rattle.portal_model.proofs.examples.leave_and_collect.Goals as goal

pub returns : goal.returns
returns c = endings
