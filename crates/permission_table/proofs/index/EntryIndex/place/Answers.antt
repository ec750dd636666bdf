use Rattle.std.proofs.Common.{◌≡◌, ◌∙◌, ℕ, List, Some, None, ap, sym}
use Rattle.std.specs.BTreeMap.{get_by_text}
use Rattle.std.specs.Option.{option_copied}
use Rattle.permission_table.specs.EntryIndex.{place_in, place_of_id}
use Rattle.permission_table.proofs.index.EntryIndex.place.Goals as goal

pub returns-in_err-ids : goal.returns-in_err-ids
returns-in_err-ids c =
    let tables = c.args.self.now.tables in
    let id = c.args.id.now in
    let none : get_by_text tables c.as_str.result.now ≡ None = sym c.get.ensures.value ∙ ap option_copied c.in_err-ids.was in
    c.from_residual.ensures
    ∙ (ap (λ o. place_of_id o id) (sym none) ∙ ap (λ (t : List ℕ). place_in tables t id) c.as_str.ensures)

pub returns : goal.returns
returns c =
    let tables = c.args.self.now.tables in
    let id = c.args.id.now in
    let found : get_by_text tables c.as_str.result.now ≡ Some c.in_ok-ids.ids.now = sym c.get.ensures.value ∙ ap option_copied c.in_ok-ids.was in
    c.copied.ensures
    ∙ (c.get-2.ensures.value
    ∙ (ap (λ (i : List ℕ). get_by_text c.in_ok-ids.ids.now i) c.as_str-2.ensures
    ∙ (ap (λ o. place_of_id o id) (sym found) ∙ ap (λ (t : List ℕ). place_in tables t id) c.as_str.ensures)))
