use Rattle.portal_model.proofs.DocumentExampleProofs.{numbers_wrap}
use Rattle.portal_model.proofs.document_examples.numbers_wrap.Goals as goal

pub returns : goal.returns
returns c = numbers_wrap
