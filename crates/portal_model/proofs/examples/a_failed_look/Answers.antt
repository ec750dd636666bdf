use Rattle.portal_model.proofs.ExampleProofs.{failed}
use Rattle.portal_model.proofs.examples.a_failed_look.Goals as goal

pub returns : goal.returns
returns c = failed
