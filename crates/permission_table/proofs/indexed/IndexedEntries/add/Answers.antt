use Rattle.std.proofs.Common.{◌≡◌, ◌∙◌, ◌++◌, ◌∷◌, [], List, false, true, ap, nat_lt, Some}
use Rattle.std.specs.List.{list_all, list_any}
use Rattle.portal_model.specs.Store.{Entries, is_entry_of}
use Rattle.permission_table.specs.EntryIndex.{KeepPlaces, Places}
use Rattle.permission_table.proofs.IndexedLists.{indexed-kept, indexed-more}
use Rattle.permission_table.proofs.PlacesRise.{list-popped, on-err, on-ok, vec-popped}
use Rattle.permission_table.proofs.indexed.IndexedEntries.add.Goals as goal

pub invariant_of-self-then-is_err-2 : goal.invariant_of-self-then-is_err-2
invariant_of-self-then-is_err-2 c =
    let es = c.self.inside.entries.items in
    let places = c.self.inside.places in
    let pushed : c.push.new.self.items ≡ es ++ c.args.entry ∷ [] = c.in_ok-push.ensures.items in
    let beside : c.push-2.new.self ≡ places ++ c.in_ok-place.place ∷ [] = on-ok c.push-2.result _ c.push-2.ensures.ok c.if-is_err.ensures.value in
    let kept : KeepPlaces c.self.inside.index.tables c.insert.new.self.tables = on-err c.insert.result _ c.insert.ensures.err c.if-is_err-2.ensures.value in
    let entries_left : c.pop-then-is_err-2-2.new.self.items ≡ es = vec-popped _ _ c.pop-then-is_err-2-2.result c.push.new.self.items c.pop-then-is_err-2-2.new.self.items es c.args.entry _ _ c.pop-then-is_err-2-2.ensures.items c.pop-then-is_err-2-2.ensures.cases c.in_ok-push.ensures.len pushed in
    let places_left : c.pop-then-is_err-2.new.self ≡ places = list-popped c.pop-then-is_err-2.result c.push-2.new.self c.pop-then-is_err-2.new.self places c.in_ok-place.place c.pop-then-is_err-2.ensures beside in
    rw (entries_left, places_left)
    (indexed-kept es places c.self.inside.index.tables c.insert.new.self.tables kept c.self.invariant)

pub invariant_of-self-else-is_err-2 : goal.invariant_of-self-else-is_err-2
invariant_of-self-else-is_err-2 c =
    let es = c.self.inside.entries.items in
    let places = c.self.inside.places in
    let entry = c.args.entry in
    let place = c.in_ok-place.place in
    let pushed : c.push.new.self.items ≡ es ++ entry ∷ [] = c.in_ok-push.ensures.items in
    let beside : c.push-2.new.self ≡ places ++ place ∷ [] = on-ok c.push-2.result _ c.push-2.ensures.ok c.if-is_err.ensures.value in
    let free : list_any (is_entry_of entry.table entry.id) es ≡ false = ap (λ (s : Entries). list_any (is_entry_of entry.table entry.id) s) c.self.view_is ∙ c.requires in
    let high : list_all (λ other. nat_lt other place) places ≡ true = rw c.as_slice.ensures at c.in_ok-place.ensures in
    let sets : Places entry.table entry.id (Some place) c.self.inside.index.tables c.insert.new.self.tables =
    rw (c.in_ok-table.ensures, c.in_ok-id.ensures) at (on-ok c.insert.result _ c.insert.ensures.ok c.if-is_err-2.ensures.value) in
    rw (pushed, beside)
    (indexed-more es places c.self.inside.index.tables c.insert.new.self.tables entry place c.self.invariant free high sets)
