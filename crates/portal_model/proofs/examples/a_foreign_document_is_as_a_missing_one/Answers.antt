use Rattle.portal_model.proofs.ExampleProofs.{foreign}
use Rattle.portal_model.proofs.examples.a_foreign_document_is_as_a_missing_one.Goals as goal

pub returns : goal.returns
returns c = foreign
