use Rattle.std.proofs.Common.{◌≡◌, ◌∙◌, ◌<◌, length, ap, sym, subst, Some, None, List}
use Rattle.std.specs.List.{IsDistinct, position, slice_get}
use Rattle.std.proofs.lemmas.Option.{slice_get-get_or}
use Rattle.portal_model.specs.Store.{Entries, entry_of, is_entry_of, without_entry}
use Rattle.portal_model.specs.declared.store.StoredEntry.{StoredEntry}
use Rattle.portal_model.specs.Valid.{same_entry}
use Rattle.permission_table.proofs.IndexedLists.{indexed-fewer}
use Rattle.permission_table.proofs.KeptEntries.{not-found, not-there, found-at, removed-at, place-within, of-one}
use Rattle.permission_table.proofs.indexed.IndexedEntries.take.Goals as goal

pub returns-in_err-at-clause-entry : goal.returns-in_err-at-clause-entry
returns-in_err-at-clause-entry c =
    c.from_residual.ensures ∙ sym (not-found (is_entry_of c.args.table.now c.args.id.now) c.args.self.now (sym c.position.ensures ∙ c.in_err-at.was))

pub returns-in_err-at-clause-rest : goal.returns-in_err-at-clause-rest
returns-in_err-at-clause-rest c =
    not-there (is_entry_of c.args.table.now c.args.id.now) c.args.self.now (sym c.position.ensures ∙ c.in_err-at.was)

pub remove-requires-2 : goal.remove-requires-2
remove-requires-2 c =
    let test = is_entry_of c.args.table.now c.args.id.now in
    let es = c.self.inside.entries.items in
    let some : position test es ≡ Some c.in_ok-at.at = ap (λ (s : Entries). position test s) c.self.view_is ∙ (sym c.position.ensures ∙ c.in_ok-at.was) in
    rw c.self.invariant.beside (place-within test es c.in_ok-at.at some)

pub invariant_of-self : goal.invariant_of-self
invariant_of-self c =
    let test = is_entry_of c.args.table.now c.args.id.now in
    let es = c.self.inside.entries.items in
    let some : position test es ≡ Some c.in_ok-at.at = ap (λ (s : Entries). position test s) c.self.view_is ∙ (sym c.position.ensures ∙ c.in_ok-at.was) in
    let differ : IsDistinct same_entry es = subst (λ (s : Entries). IsDistinct same_entry s) (sym c.self.view_is) c.requires in
    rw (c.remove-3.ensures.items, c.remove-2.ensures.rest)
    (indexed-fewer c.args.table.now c.args.id.now es c.self.inside.places c.self.inside.index.tables c.remove.new.self.tables c.in_ok-at.at c.self.invariant differ c.remove.ensures some)

pub returns-clause-entry : goal.returns-clause-entry
returns-clause-entry c =
    let test = is_entry_of c.args.table.now c.args.id.now in
    let es = c.self.inside.entries.items in
    let some : position test es ≡ Some c.in_ok-at.at = ap (λ (s : Entries). position test s) c.self.view_is ∙ (sym c.position.ensures ∙ c.in_ok-at.was) in
    let item : slice_get es c.in_ok-at.at ≡ Some c.remove-3.result =
    slice_get-get_or es c.in_ok-at.at c.remove-3.result (place-within test es c.in_ok-at.at some) ∙ ap (λ (e : StoredEntry). Some e) (sym c.remove-3.ensures.value) in
    found-at test es c.in_ok-at.at c.remove-3.result some item
    ∙ ap (λ (s : Entries). entry_of s c.args.table.now c.args.id.now) c.self.view_is

pub returns-clause-rest : goal.returns-clause-rest
returns-clause-rest c =
    let test = is_entry_of c.args.table.now c.args.id.now in
    let es = c.self.inside.entries.items in
    let some : position test es ≡ Some c.in_ok-at.at = ap (λ (s : Entries). position test s) c.self.view_is ∙ (sym c.position.ensures ∙ c.in_ok-at.was) in
    let differ : IsDistinct same_entry es = subst (λ (s : Entries). IsDistinct same_entry s) (sym c.self.view_is) c.requires in
    c.remove-3.ensures.items
    ∙ (removed-at test same_entry (of-one c.args.table.now c.args.id.now) es c.in_ok-at.at differ some
    ∙ ap (λ (s : Entries). without_entry c.args.table.now c.args.id.now s) c.self.view_is)
