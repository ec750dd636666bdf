use Rattle.std.proofs.Common.{rules, tests, ◌∙◌}
use Rattle.std.proofs.lemmas.Iterator.{YieldsList-from_slice}
use Rattle.std.proofs.lemmas.Iterator.Search.{find_from_yields_List}
use Rattle.portal_base.specs.declared.names.doc_id.DocId.{DocId}
use Rattle.document_records.specs.DocumentIndex.{number_serves}
use Rattle.document_records.proofs.placed.PlacedDocuments.first_with_flags.Goals as goal

pub returns : goal.returns
returns c =
    c.copied.ensures
    ∙ find_from_yields_List (λ (id : DocId). number_serves c.args.self.now.live c.args.persistent
    c.args.strict c.args.folder id.number) _ _ _ c.find.ensures.ran
    (YieldsList-from_slice c.args.ids.now cc) (λ x b q k. search (rules, tests))
