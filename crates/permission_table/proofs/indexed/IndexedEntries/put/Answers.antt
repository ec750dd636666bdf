use Rattle.std.proofs.Common.{Some, None, sym, ap, ◌≡◌, ◌∙◌, List, ◌++◌, ◌∷◌, [], Bool, cond, set}
use Rattle.std.specs.List.{position}
use Rattle.portal_model.specs.RecordChanges.{change_first}
use Rattle.portal_model.specs.Store.{Entries, is_entry_of, put_entry}
use Rattle.portal_model.specs.declared.store.StoredEntry.{StoredEntry}
use Rattle.permission_table.proofs.FirstPassing.{first-changed, is-there, is-missing}
use Rattle.permission_table.proofs.IndexedLists.{indexed-set}
use Rattle.permission_table.proofs.PlacesRise.{ok-so}
use Rattle.permission_table.proofs.indexed.IndexedEntries.put.Goals as goal

pub invariant_of-self : goal.invariant_of-self
invariant_of-self c =
    let entry = c.args.entry in
    let test = is_entry_of entry.table entry.id in
    let es = c.self.inside.entries.items in
    let at : Some c.in-Some.at ≡ position test es = c.in-Some.ensures ∙ ap (λ (s : Entries). position test s) (sym c.self.view_is) in
    rw (first-changed test (λ _. entry) es c.in-Some.at c.index_mut.result.now at c.index_mut.ensures.value)
    (indexed-set entry es c.self.inside.places c.self.inside.index.tables c.self.invariant)

pub returns-in-Some-clause-ok : goal.returns-in-Some-clause-ok
returns-in-Some-clause-ok c =
    let entry = c.args.entry in
    let test = is_entry_of entry.table entry.id in
    let es = c.self.inside.entries.items in
    let at : Some c.in-Some.at ≡ position test es = c.in-Some.ensures ∙ ap (λ (s : Entries). position test s) (sym c.self.view_is) in
    first-changed test (λ _. entry) es c.in-Some.at c.index_mut.result.now at c.index_mut.ensures.value
    ∙ (ap (λ (b : Bool). cond b (change_first test (λ _. entry) es) (es ++ entry ∷ [])) (sym (is-there test es c.in-Some.at at))
    ∙ ap (put_entry entry) c.self.view_is)

pub add-requires : goal.add-requires
add-requires c = is-missing (is_entry_of c.args.entry.table c.args.entry.id) c.args.self.now c.in-None.ensures

pub returns-in-None-clause-ok : goal.returns-in-None-clause-ok
returns-in-None-clause-ok c =
    let entry = c.args.entry in
    let test = is_entry_of entry.table entry.id in
    let old = c.args.self.now in
    ok-so c.add.result c.add.ensures.ok
    (λ e. e ∙ sym (ap (λ (b : Bool). cond b (change_first test (λ _. entry) old) (old ++ entry ∷ [])) (is-missing test old c.in-None.ensures)))
