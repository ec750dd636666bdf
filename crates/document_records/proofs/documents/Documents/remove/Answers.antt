use Rattle.std.proofs.Common.{◌∙◌, sym, subst}
use Rattle.document_records.specs.DocumentIndex.{AreByPath}
use Rattle.document_records.specs.Documents.{DocumentList}
use Rattle.document_records.proofs.DocumentsByPath.{ids-differ, by-path-fewer, by-path-same}
use Rattle.document_records.proofs.documents.Documents.remove.Goals as goal

pub invariant_of-self : goal.invariant_of-self
invariant_of-self c =
    subst (λ (s : DocumentList). AreByPath s.live c.self.inside.by_path) (sym c.remove.ensures.rest)
    (by-path-same c.self.inside.placed.live c.args.id.number c.self.inside.by_path
    (sym c.remove.ensures.document ∙ c.in_err-document.was) c.self.invariant)

pub remove_id-requires : goal.remove_id-requires
remove_id-requires c = ids-differ c.self.inside.placed.live c.self.inside.by_path
    c.remove.ensures.kept.live_differ c.self.invariant c.in_ok-document.document.path

pub invariant_of-self-2 : goal.invariant_of-self-2
invariant_of-self-2 c =
    subst (λ (s : DocumentList). AreByPath s.live c.remove_id.new.by_path)
    (sym c.remove.ensures.rest)
    (by-path-fewer c.self.inside.placed.live c.args.id.number c.in_ok-document.document
    c.self.inside.by_path c.remove_id.new.by_path c.remove.ensures.kept.live_differ
    (sym c.remove.ensures.document ∙ c.in_ok-document.was) c.self.invariant
    c.remove_id.ensures)
