use Rattle.portal_model.proofs.DocumentExampleProofs.{costs_of_documents}
use Rattle.portal_model.proofs.document_examples.requests_on_documents_cost_their_bytes.Goals as goal

pub returns : goal.returns
returns c = costs_of_documents
