use Rattle.folder_laws.proofs.MadeNamings.{made-documents}
use Rattle.folder_laws.proofs.laws.namings_are_of_made_documents.Goals as goal

pub returns : goal.returns
returns c = made-documents
