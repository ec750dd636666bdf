use Rattle.std.proofs.Common.{◌≡◌, ◌==◌, ◌∙◌, sym, Some, None}
use Rattle.std.specs.List.{position}
use Rattle.portal_base.specs.declared.names.doc_id.DocId.{DocId}
use Rattle.document_records.proofs.DocumentsByPath.{taken-at, taken-nowhere}
use Rattle.document_records.proofs.by_path.take_id.Goals as goal

pub returns-in-Some : goal.returns-in-Some
returns-in-Some c =
    let some : position (λ (x : DocId). x.number == c.args.id.number) c.args.ids.now
    ≡ Some c.in-Some.at = rw c.as_slice.ensures at (sym c.place_of.ensures ∙ c.in-Some.is) in
    c.remove.ensures.rest ∙ taken-at c.args.id.number c.args.ids.now c.in-Some.at c.requires some

pub returns-in_default : goal.returns-in_default
returns-in_default c =
    let none : position (λ (x : DocId). x.number == c.args.id.number) c.args.ids.now ≡ None =
    rw c.as_slice.ensures at (sym c.place_of.ensures ∙ c.in_default.is) in
    taken-nowhere c.args.id.number c.args.ids.now none
