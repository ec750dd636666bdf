use Rattle.portal_model.proofs.Refusals.{refused-entries-keep}
use Rattle.portal_model.proofs.document_laws.refused_entries_keep_documents.Goals as goal

pub returns : goal.returns
returns c = refused-entries-keep
