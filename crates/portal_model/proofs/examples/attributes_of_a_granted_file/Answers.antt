use Rattle.portal_model.proofs.ExampleProofs.{attributes}
use Rattle.portal_model.proofs.examples.attributes_of_a_granted_file.Goals as goal

pub returns : goal.returns
returns c = attributes
