use Rattle.std.proofs.Common.{◌≡◌, ◌∙◌, ap, sym, is_some, Bool, true, false, cond, Some, None}
use Rattle.std.specs.BTreeMap.{get}
use Rattle.std.specs.List.{position, slice_get}
use Rattle.std.specs.Option.{option_copied}
use Rattle.std.specs.Ordering.{nat_cmp}
use Rattle.std.specs.Result.{result_ok}
use Rattle.document_records.specs.Documents.{DocumentList, has_number}
use Rattle.document_records.proofs.DocumentLemmas.{lost, searched-none, searched-there, searched-at}
use Rattle.document_records.proofs.placed.PlacedDocuments.place_of.Goals as goal

pub returns-in_err-place : goal.returns-in_err-place
returns-in_err-place c =
    c.from_residual.ensures
    ∙ (sym (lost c.self.inside.made c.args.id.number c.self.inside.live _ c.self.invariant.live_made (ap is_some c.get.ensures.value ∙ c.self.invariant.same c.args.id.number) (ap option_copied c.in_err-place.was))
    ∙ ap (λ (s : DocumentList). position (has_number c.args.id.number) s.live) c.self.view_is)

pub returns-in_err-at : goal.returns-in_err-at
returns-in_err-at c =
    let given : get nat_cmp c.self.inside.places c.args.id.number ≡ Some c.in_ok-place.place.now = sym c.get.ensures.value ∙ ap option_copied c.in_ok-place.was in
    let none : result_ok c.binary_search.result ≡ None = sym c.ok.ensures.value ∙ c.in_err-at.was in
    c.from_residual-in_err-at.ensures
    ∙ (sym (searched-none c.self.inside.places c.args.id.number c.self.inside.live c.in_ok-place.place.now c.self.inside.live_places c.binary_search.result given c.self.invariant.beside c.self.invariant.rises (rw c.as_slice.ensures at c.binary_search.ensures.position) none)
    ∙ ap (λ (s : DocumentList). position (has_number c.args.id.number) s.live) c.self.view_is)

pub returns-in_err-found : goal.returns-in_err-found
returns-in_err-found c =
    let given : get nat_cmp c.self.inside.places c.args.id.number ≡ Some c.in_ok-place.place.now = sym c.get.ensures.value ∙ ap option_copied c.in_ok-place.was in
    let at : result_ok c.binary_search.result ≡ Some c.in_ok-at.at = sym c.ok.ensures.value ∙ c.in_ok-at.was in
    let lost : slice_get c.self.inside.live c.in_ok-at.at ≡ None = sym c.get-2.ensures ∙ ap option_copied c.in_err-found.was in
    absurd (searched-there c.self.inside.places c.args.id.number c.self.inside.live c.in_ok-place.place.now c.self.inside.live_places c.binary_search.result given c.self.invariant.beside c.self.invariant.rises (rw c.as_slice.ensures at c.binary_search.ensures.position) c.in_ok-at.at at lost)

pub returns-then-eq : goal.returns-then-eq
returns-then-eq c =
    let given : get nat_cmp c.self.inside.places c.args.id.number ≡ Some c.in_ok-place.place.now = sym c.get.ensures.value ∙ ap option_copied c.in_ok-place.was in
    let at : result_ok c.binary_search.result ≡ Some c.in_ok-at.at = sym c.ok.ensures.value ∙ c.in_ok-at.was in
    let there : slice_get c.self.inside.live c.in_ok-at.at ≡ Some c.in_ok-found.found.now = sym c.get-2.ensures ∙ ap option_copied c.in_ok-found.was in
    let is : has_number c.args.id.number c.in_ok-found.found.now ≡ true = sym c.eq.ensures ∙ c.if-eq.true in
    sym (ap (λ (b : Bool). cond b (Some c.in_ok-at.at) None) is)
    ∙ (searched-at c.self.inside.places c.args.id.number c.self.inside.live c.in_ok-place.place.now c.self.inside.live_places c.binary_search.result given c.self.invariant.beside c.self.invariant.rises (rw c.as_slice.ensures at c.binary_search.ensures.position) c.in_ok-at.at at c.in_ok-found.found.now there
    ∙ ap (λ (s : DocumentList). position (has_number c.args.id.number) s.live) c.self.view_is)

pub returns-else-eq : goal.returns-else-eq
returns-else-eq c =
    let given : get nat_cmp c.self.inside.places c.args.id.number ≡ Some c.in_ok-place.place.now = sym c.get.ensures.value ∙ ap option_copied c.in_ok-place.was in
    let at : result_ok c.binary_search.result ≡ Some c.in_ok-at.at = sym c.ok.ensures.value ∙ c.in_ok-at.was in
    let there : slice_get c.self.inside.live c.in_ok-at.at ≡ Some c.in_ok-found.found.now = sym c.get-2.ensures ∙ ap option_copied c.in_ok-found.was in
    let isnt : has_number c.args.id.number c.in_ok-found.found.now ≡ false = sym c.eq.ensures ∙ c.if-eq.false in
    sym (ap (λ (b : Bool). cond b (Some c.in_ok-at.at) None) isnt)
    ∙ (searched-at c.self.inside.places c.args.id.number c.self.inside.live c.in_ok-place.place.now c.self.inside.live_places c.binary_search.result given c.self.invariant.beside c.self.invariant.rises (rw c.as_slice.ensures at c.binary_search.ensures.position) c.in_ok-at.at at c.in_ok-found.found.now there
    ∙ ap (λ (s : DocumentList). position (has_number c.args.id.number) s.live) c.self.view_is)
