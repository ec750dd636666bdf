use Rattle.std.proofs.Common.{◌≡◌, ◌∙◌, ◌++◌, ◌∷◌, [], ap, sym, subst, not, nat_eq, List}
use Rattle.std.specs.List.{filter, find, IsDistinct}
use Rattle.portal_base.specs.declared.names.doc_id.DocId.{DocId}
use Rattle.portal_model.specs.Valid.{is_made}
use Rattle.portal_model.specs.declared.state.Document.{Document}
use Rattle.document_records.specs.DocumentIndex.{live_numbers}
use Rattle.document_records.specs.Documents.{DocumentList, has_number}
use Rattle.document_records.proofs.DocumentLemmas.{indexed-back, popped, popped-last, last-found, last-left}
use Rattle.document_records.proofs.placed.PlacedDocuments.take_back.Goals as goal

pub invariant_of-self : goal.invariant_of-self
invariant_of-self c =
    let live : c.self.inside.live ≡ c.requires.before.live ++ c.requires.last ∷ [] =
    ap (λ (s : DocumentList). s.live) c.self.view_is
    ∙ ap (λ (s : DocumentList). s.live) c.requires.added in
    let made : c.self.inside.made ≡ c.requires.before.made ++ c.requires.last.id ∷ [] =
    ap (λ (s : DocumentList). s.made) c.self.view_is
    ∙ ap (λ (s : DocumentList). s.made) c.requires.added in
    let live_left : c.pop-last.new.self ≡ c.requires.before.live =
    popped c.pop-last.result c.self.inside.live c.pop-last.new.self c.requires.before.live
    c.requires.last c.pop-last.ensures live in
    let made_left : c.pop-2.new.self ≡ c.requires.before.made =
    popped c.pop-2.result c.self.inside.made c.pop-2.new.self c.requires.before.made
    c.requires.last.id c.pop-2.ensures made in
    rw (live_left, made_left)
    (indexed-back c.self.inside.most_live c.self.inside.most_made c.requires.before.live
    c.requires.before.made c.self.inside.places c.remove.new.self c.self.inside.live_places
    c.pop.new.self c.pop.result c.requires.last
    (rw live at (rw made at c.self.invariant))
    (ap (λ (id : DocId). is_made c.requires.before.made id.number) c.requires.number
    ∙ c.requires.new)
    (rw c.requires.number c.remove.ensures.updates.0)
    c.pop.ensures)

pub returns-clause-document : goal.returns-clause-document
returns-clause-document c =
    let live : c.self.inside.live ≡ c.requires.before.live ++ c.requires.last ∷ [] =
    ap (λ (s : DocumentList). s.live) c.self.view_is
    ∙ ap (λ (s : DocumentList). s.live) c.requires.added in
    popped-last c.pop-last.result c.self.inside.live c.pop-last.new.self c.requires.before.live
    c.requires.last c.pop-last.ensures live
    ∙ (sym (last-found c.requires.before.live c.requires.last
    (subst (λ (ds : List Document). IsDistinct nat_eq (live_numbers ds)) live
    c.self.invariant.live_differ))
    ∙ (ap (λ (id : DocId). find (has_number id.number)
    (c.requires.before.live ++ c.requires.last ∷ [])) c.requires.number
    ∙ sym (ap (λ (s : DocumentList). find (has_number c.args.id.number) s.live) c.requires.added)))

pub returns-clause-others : goal.returns-clause-others
returns-clause-others c =
    let live : c.self.inside.live ≡ c.requires.before.live ++ c.requires.last ∷ [] =
    ap (λ (s : DocumentList). s.live) c.self.view_is
    ∙ ap (λ (s : DocumentList). s.live) c.requires.added in
    popped c.pop-last.result c.self.inside.live c.pop-last.new.self c.requires.before.live
    c.requires.last c.pop-last.ensures live
    ∙ (sym (last-left c.requires.before.live c.requires.last
    (subst (λ (ds : List Document). IsDistinct nat_eq (live_numbers ds)) live
    c.self.invariant.live_differ))
    ∙ (ap (λ (id : DocId). filter (λ (d : Document). not (has_number id.number d))
    (c.requires.before.live ++ c.requires.last ∷ [])) c.requires.number
    ∙ sym (ap (λ (s : DocumentList). filter
    (λ (d : Document). not (has_number c.args.id.number d)) s.live) c.requires.added)))
