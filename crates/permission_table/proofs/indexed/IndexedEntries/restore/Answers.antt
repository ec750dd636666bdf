use Rattle.std.proofs.Common.{◌≡◌, ◌∙◌, ap, sym, Some, None, set}
use Rattle.std.specs.List.{position}
use Rattle.portal_model.specs.Store.{Entries, is_entry_of}
use Rattle.portal_model.specs.declared.store.StoredEntry.{StoredEntry}
use Rattle.permission_table.specs.Tables.{restored}
use Rattle.permission_table.proofs.FirstPassing.{first-changed, first-missing}
use Rattle.permission_table.proofs.IndexedLists.{indexed-restored}
use Rattle.permission_table.proofs.indexed.IndexedEntries.restore.Goals as goal

pub invariant_of-self : goal.invariant_of-self
invariant_of-self c =
    let test = is_entry_of c.args.table.now c.args.id.now in
    let es = c.self.inside.entries.items in
    let at : Some c.in-Some.at ≡ position test es = c.in-Some.ensures ∙ ap (λ (s : Entries). position test s) (sym c.self.view_is) in
    rw (ap (λ (e : StoredEntry). set es c.in-Some.at e) c.restore_at.ensures
    ∙ first-changed test (λ e. record e { rows = c.args.former.rows; datum = c.args.former.datum }) es c.in-Some.at c.index_mut.result.now at c.index_mut.ensures.value)
    (indexed-restored c.args.table.now c.args.id.now c.args.former es c.self.inside.places c.self.inside.index.tables c.self.invariant)

pub returns-in-Some : goal.returns-in-Some
returns-in-Some c =
    let test = is_entry_of c.args.table.now c.args.id.now in
    let es = c.self.inside.entries.items in
    let at : Some c.in-Some.at ≡ position test es = c.in-Some.ensures ∙ ap (λ (s : Entries). position test s) (sym c.self.view_is) in
    ap (λ (e : StoredEntry). set es c.in-Some.at e) c.restore_at.ensures
    ∙ (first-changed test (λ e. record e { rows = c.args.former.rows; datum = c.args.former.datum }) es c.in-Some.at c.index_mut.result.now at c.index_mut.ensures.value
    ∙ ap (λ (s : Entries). restored c.args.table.now c.args.id.now c.args.former s) c.self.view_is)

pub returns-in_default : goal.returns-in_default
returns-in_default c =
    first-missing (is_entry_of c.args.table.now c.args.id.now) (λ e. record e { rows = c.args.former.rows; datum = c.args.former.datum }) c.args.self.now c.in_default.ensures
