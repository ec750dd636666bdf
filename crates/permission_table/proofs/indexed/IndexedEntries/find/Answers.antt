use Rattle.std.proofs.Common.{◌≡◌, ◌∙◌, ap, sym, Some}
use Rattle.std.specs.List.{find, position, slice_get}
use Rattle.std.specs.Option.{option_copied}
use Rattle.portal_model.specs.Store.{Entries, is_entry_of}
use Rattle.permission_table.proofs.KeptEntries.{found-by-place, not-found}
use Rattle.permission_table.proofs.indexed.IndexedEntries.find.Goals as goal

pub returns-in_err-at : goal.returns-in_err-at
returns-in_err-at c =
    ap option_copied c.from_residual.ensures
    ∙ sym (not-found (is_entry_of c.args.table.now c.args.id.now) c.args.self.now (sym c.position.ensures ∙ c.in_err-at.was))

pub returns : goal.returns
returns c =
    let test = is_entry_of c.args.table.now c.args.id.now in
    c.entry_at.ensures
    ∙ (ap (λ (s : Entries). slice_get s c.in_ok-at.at) (c.deref.ensures.value ∙ c.self.view_is)
    ∙ found-by-place test c.args.self.now c.in_ok-at.at (sym c.position.ensures ∙ c.in_ok-at.was))
