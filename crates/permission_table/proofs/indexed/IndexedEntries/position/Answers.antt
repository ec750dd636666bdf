use Rattle.std.proofs.Common.{◌≡◌, ◌∙◌, ap, sym, Some, None}
use Rattle.std.specs.List.{position}
use Rattle.portal_model.specs.Store.{Entries, is_entry_of}
use Rattle.permission_table.specs.EntryIndex.{place_beside}
use Rattle.permission_table.proofs.PlacesRise.{position-is, position-none}
use Rattle.permission_table.proofs.indexed.IndexedEntries.position.Goals as goal

pub returns-in_err-place : goal.returns-in_err-place
returns-in_err-place c =
    let test = is_entry_of c.args.table.now c.args.id.now in
    let es = c.self.inside.entries.items in
    let none : place_beside test es c.self.inside.places ≡ None = sym (c.self.invariant.same c.args.table.now c.args.id.now) ∙ (sym c.place.ensures ∙ c.in_err-place.was) in
    c.from_residual.ensures
    ∙ (position-none test es c.self.inside.places c.self.invariant.beside none ∙ ap (λ (s : Entries). position test s) c.self.view_is)

pub returns : goal.returns
returns c =
    let test = is_entry_of c.args.table.now c.args.id.now in
    let es = c.self.inside.entries.items in
    let found : place_beside test es c.self.inside.places ≡ Some c.in_ok-place.place = sym (c.self.invariant.same c.args.table.now c.args.id.now) ∙ (sym c.place.ensures ∙ c.in_ok-place.was) in
    rw (c.count_below.ensures, c.as_slice.ensures)
    (position-is test es c.self.inside.places c.in_ok-place.place c.self.invariant.rises found ∙ ap (λ (s : Entries). position test s) c.self.view_is)
