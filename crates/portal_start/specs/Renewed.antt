-- The opening state of a history that goes on from the lists of a portal.
use Rattle.std.specs.Prelude.{ℕ, List, [], map}
use Rattle.document_records.specs.Documents.{DocumentList}
use Rattle.portal_base.specs.declared.limits.Limits.{Limits}
use Rattle.portal_model.specs.declared.opening.OpeningDocument.{OpeningDocument}
use Rattle.portal_model.specs.declared.opening.OpeningState.{OpeningState}
use Rattle.portal_model.specs.declared.opening.TakenGeneration.{TakenGeneration}
use Rattle.portal_model.specs.declared.state.Document.{Document}
use Rattle.portal_model.specs.declared.state.Triple.{Triple}
use Rattle.portal_model.specs.Kept.{document_record}
use Rattle.portal_model.specs.Store.{Entries}

-- a live document with the rights in it
abbrev pub document_again : List Triple → Document → OpeningDocument
document_again rights d = record {
  kept = document_record rights d;
  persistent = d.persistent;
  folder = d.folder;
}

-- The live documents with their rights, all numbers that were made, the applications by their
-- numbers, the entries of the permission store, and the generations that were taken. The tree tells
-- the files.
abbrev pub opening_of : Limits → DocumentList → List Triple → List (List ℕ) → Entries
    → List TakenGeneration → OpeningState
opening_of limits documents rights applications entries taken = record {
  limits = limits;
  documents = map (document_again rights) documents.live;
  made = documents.made;
  applications = applications;
  entries = entries;
  files = [];
  taken = taken;
}
