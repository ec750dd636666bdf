use Rattle.portal_model.proofs.EntriesAllowed.{allowed-done}
use Rattle.portal_model.proofs.document_laws.what_is_allowed_is_done.Goals as goal

pub returns : goal.returns
returns c = allowed-done
