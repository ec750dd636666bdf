use Rattle.std.proofs.Common.{◌≡◌, sym, subst, Some}
use Rattle.portal_model.specs.Store.{entry_of}
use Rattle.permission_table.specs.Tables.{IsFormer, IsHeld}
use Rattle.permission_table.proofs.KeptEntries.{found-of, held-found}
use Rattle.permission_table.proofs.tables.Tables.former.Goals as goal

pub returns-in_ok-content_of-in-Some-clause-held :
    goal.returns-in_ok-content_of-in-Some-clause-held
returns-in_ok-content_of-in-Some-clause-held c =
    let entries = c.self.inside.entries in
    let table = c.args.table.now in
    let id = c.args.id.now in
    let entry = c.in-Some.entry.now in
    let found : entry_of entries table id ≡ Some entry =
    sym c.in-Some.ensures in
    let key = found-of table id entries entry found in
    let held : IsHeld entry = held-found table id entries entry c.self.invariant found in
    subst (IsFormer table id) (sym c.in_ok-content_of-in-Some.ensures)
    (subst IsHeld (λ i. record { table = key.0 i; id = key.1 i; datum = entry.datum; rows = entry.rows }) held)
