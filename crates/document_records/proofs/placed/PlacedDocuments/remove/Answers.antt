use Rattle.std.proofs.Common.{◌≡◌, ◌∙◌, ap, sym, Some, None}
use Rattle.std.specs.List.{position, find}
use Rattle.document_records.specs.Documents.{DocumentList, has_number, without_document}
use Rattle.document_records.proofs.DocumentLemmas.{not-found, not-there, found-at, removed-at, indexed-fewer, beside-at}
use Rattle.document_records.proofs.placed.PlacedDocuments.remove.Goals as goal

pub returns-in_err-at-clause-document : goal.returns-in_err-at-clause-document
returns-in_err-at-clause-document c =
    let none : position (has_number c.args.id.number) c.self.inside.live ≡ None =
    ap (λ (s : DocumentList). position (has_number c.args.id.number) s.live) c.self.view_is
    ∙ (sym c.place_of.ensures ∙ c.in_err-at.was) in
    c.from_residual.ensures
    ∙ (sym (not-found (has_number c.args.id.number) c.self.inside.live none)
    ∙ ap (λ (s : DocumentList). find (has_number c.args.id.number) s.live) c.self.view_is)

pub returns-in_err-at-clause-rest : goal.returns-in_err-at-clause-rest
returns-in_err-at-clause-rest c =
    let none : position (has_number c.args.id.number) c.self.inside.live ≡ None =
    ap (λ (s : DocumentList). position (has_number c.args.id.number) s.live) c.self.view_is
    ∙ (sym c.place_of.ensures ∙ c.in_err-at.was) in
    sym c.self.view_is
    ∙ ((λ i. record {
      most_live = c.self.inside.most_live;
      most_made = c.self.inside.most_made;
      live = not-there (has_number c.args.id.number) c.self.inside.live none i;
      made = c.self.inside.made;
    })
    ∙ ap (λ (s : DocumentList). without_document s c.args.id.number) c.self.view_is)

pub remove-requires : goal.remove-requires
remove-requires c =
    let some : position (has_number c.args.id.number) c.self.inside.live ≡ Some c.in_ok-at.at =
    ap (λ (s : DocumentList). position (has_number c.args.id.number) s.live) c.self.view_is
    ∙ (sym c.place_of.ensures ∙ c.in_ok-at.was) in
    beside-at (has_number c.args.id.number) c.self.inside.places c.self.inside.live
    c.self.inside.live_places c.in_ok-at.at c.self.invariant.beside some

pub invariant_of-self : goal.invariant_of-self
invariant_of-self c =
    let some : position (has_number c.args.id.number) c.self.inside.live ≡ Some c.in_ok-at.at =
    ap (λ (s : DocumentList). position (has_number c.args.id.number) s.live) c.self.view_is
    ∙ (sym c.place_of.ensures ∙ c.in_ok-at.was) in
    let left = removed-at c.args.id.number c.self.inside.live c.in_ok-at.at
    c.self.invariant.live_differ some in
    rw (c.remove-2.ensures.rest, c.remove.ensures.rest, left)
    (indexed-fewer c.self.inside.most_live c.self.inside.most_made c.self.inside.live
    c.self.inside.made c.self.inside.places c.self.inside.live_places c.args.id.number
    c.in_ok-at.at c.self.invariant left)

pub returns-clause-document : goal.returns-clause-document
returns-clause-document c =
    let some : position (has_number c.args.id.number) c.self.inside.live ≡ Some c.in_ok-at.at =
    ap (λ (s : DocumentList). position (has_number c.args.id.number) s.live) c.self.view_is
    ∙ (sym c.place_of.ensures ∙ c.in_ok-at.was) in
    found-at (has_number c.args.id.number) c.self.inside.live c.in_ok-at.at c.remove-2.result some
    c.remove-2.ensures.item
    ∙ ap (λ (s : DocumentList). find (has_number c.args.id.number) s.live) c.self.view_is

pub returns-clause-rest : goal.returns-clause-rest
returns-clause-rest c =
    let some : position (has_number c.args.id.number) c.self.inside.live ≡ Some c.in_ok-at.at =
    ap (λ (s : DocumentList). position (has_number c.args.id.number) s.live) c.self.view_is
    ∙ (sym c.place_of.ensures ∙ c.in_ok-at.was) in
    (λ i. record {
      most_live = c.self.inside.most_live;
      most_made = c.self.inside.most_made;
      live = (c.remove-2.ensures.rest
          ∙ removed-at c.args.id.number c.self.inside.live c.in_ok-at.at
          c.self.invariant.live_differ some) i;
      made = c.self.inside.made;
    })
    ∙ ap (λ (s : DocumentList). without_document s c.args.id.number) c.self.view_is
