use Rattle.std.proofs.Common.{◌≡◌, Some, None, sym, ap, ◌∙◌, List, ◌++◌, ◌∷◌, [], Bool, cond}
use Rattle.std.specs.List.{position}
use Rattle.portal_model.specs.RecordChanges.{is_of_key, change_first}
use Rattle.portal_model.specs.declared.records.EntryRecord.{EntryRecord}
use Rattle.record_keeper.proofs.FirstPassing.{first-changed, is-there, is-missing}
use Rattle.record_keeper.proofs.changes.set_entry.Goals as goal

pub returns-in-Some-clause-items : goal.returns-in-Some-clause-items
returns-in-Some-clause-items c =
    let entry = c.args.entry in
    let old = c.args.entries.now.items in
    let at : Some c.in-Some.at ≡ position (is_of_key entry.table entry.id) old = c.in-Some.ensures ∙ ap (λ (xs : List EntryRecord). position (is_of_key entry.table entry.id) xs) c.deref.ensures.value in
    first-changed (is_of_key entry.table entry.id) (λ _. entry) old c.in-Some.at c.index_mut.result.now at c.index_mut.ensures.value
    ∙ ap (λ (b : Bool). cond b (change_first (is_of_key entry.table entry.id) (λ _. entry) old) (old ++ entry ∷ [])) (sym (is-there (is_of_key entry.table entry.id) old c.in-Some.at at))

pub returns-in-None-clause-items : goal.returns-in-None-clause-items
returns-in-None-clause-items c =
    let entry = c.args.entry in
    let old = c.args.entries.now.items in
    let at : None ≡ position (is_of_key entry.table entry.id) old = c.in-None.ensures ∙ ap (λ (xs : List EntryRecord). position (is_of_key entry.table entry.id) xs) c.deref.ensures.value in
    c.push_reserved.ensures.items
    ∙ ap (λ (b : Bool). cond b (change_first (is_of_key entry.table entry.id) (λ _. entry) old) (old ++ entry ∷ [])) (sym (is-missing (is_of_key entry.table entry.id) old at))
