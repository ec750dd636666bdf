use Rattle.portal_model.proofs.LooksTaken.{looks-are-taken}
use Rattle.portal_model.proofs.document_laws.looks_are_those_taken.Goals as goal

pub returns : goal.returns
returns c = looks-are-taken
