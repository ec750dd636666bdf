use Rattle.std.proofs.Common.{◌∙◌, List, sym, subst}
use Rattle.portal_model.specs.declared.state.Document.{Document}
use Rattle.document_records.specs.DocumentIndex.{AreByPath}
use Rattle.document_records.proofs.DocumentsByPath.{ids-differ, by-path-fewer, by-path-same}
use Rattle.document_records.proofs.documents.Documents.take_back.Goals as goal

pub remove_id-requires : goal.remove_id-requires
remove_id-requires c = ids-differ c.self.inside.placed.live c.self.inside.by_path
    c.take_back.ensures.kept.live_differ c.self.invariant c.in-Some.last.path

pub invariant_of-self : goal.invariant_of-self
invariant_of-self c =
    subst (λ (ds : List Document). AreByPath ds c.remove_id.new.by_path)
    (sym c.take_back.ensures.others)
    (by-path-fewer c.self.inside.placed.live c.args.id.number c.in-Some.last c.self.inside.by_path
    c.remove_id.new.by_path c.take_back.ensures.kept.live_differ
    (sym c.take_back.ensures.document ∙ c.in-Some.is) c.self.invariant c.remove_id.ensures)

pub invariant_of-self-in_default : goal.invariant_of-self-in_default
invariant_of-self-in_default c =
    subst (λ (ds : List Document). AreByPath ds c.self.inside.by_path)
    (sym c.take_back.ensures.others)
    (by-path-same c.self.inside.placed.live c.args.id.number c.self.inside.by_path
    (sym c.take_back.ensures.document ∙ c.in_default.is) c.self.invariant)
