use Rattle.std.proofs.Common.{ℕ, List, Some, string_bytes}
use Rattle.std.proofs.Common.{◌≡◌, ◌∙◌, ap, cond}
use Rattle.std.specs.BTreeMap.{get_by_text}
use Rattle.portal_base.specs.Names.{is_same}
use Rattle.std.proofs.lemmas.Map.Text.{btree_map_updates_text}
use Rattle.permission_table.proofs.index.insert_id.Goals as goal

pub returns-clause-ok : goal.returns-clause-ok
returns-clause-ok c = λ other.
    btree_map_updates_text (string_bytes c.into_string.result) c.args.ids.now c.insert.new.self (Some c.args.place) c.in_ok-insert.ensures.updates other
    ∙ ap (λ (i : List ℕ). cond (is_same i other) (Some c.args.place) (get_by_text c.args.ids.now other)) c.into_string.ensures
