use Rattle.portal_model.proofs.AllowedLaws.{refusals-keep}
use Rattle.portal_model.proofs.document_laws.refusals_keep_documents.Goals as goal

pub returns : goal.returns
returns c = refusals-keep
