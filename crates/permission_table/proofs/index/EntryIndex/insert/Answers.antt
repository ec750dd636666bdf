use Rattle.std.proofs.Common.{rules, ◌≡◌, ◌∙◌, ℕ, List, Option, Some, None, string_bytes, cond, ap, sym, subst}
use Rattle.std.specs.BTreeMap.{get_by_text}
use Rattle.std.proofs.lemmas.Map.Text.{btree_map_updates_text}
use Rattle.portal_base.specs.Names.{is_same}
use Rattle.permission_table.specs.EntryIndex.{KeepPlaces, Places, place_of_id}
use Rattle.permission_table.proofs.IndexPlaces.{err-so, kept, none-text, placed}
use Rattle.permission_table.proofs.index.EntryIndex.insert.Goals as goal

pub returns-in_err-insert_id-in-Some-clause-err : goal.returns-in_err-insert_id-in-Some-clause-err
returns-in_err-insert_id-in-Some-clause-err c =
    let tables = c.args.self.now.tables in
    let table = c.as_str.result.now in
    let had : get_by_text tables table ≡ Some c.in-Some.ids.now = sym c.in-Some.ensures.value in
    let set = c.get_mut.follows.lender c.insert_id.new.ids in
    let sets = btree_map_updates_text table tables set (Some c.insert_id.new.ids) ((c.get_mut.follows.holds c.insert_id.new.ids).3 (search rules)) in
    err-so c.from_residual.result (kept table c.args.id tables set (Some c.in-Some.ids.now) (Some c.insert_id.new.ids) had sets c.in_err-insert_id-in-Some.ensures.err)

pub returns-in_ok-insert_id-in-Some-clause-ok : goal.returns-in_ok-insert_id-in-Some-clause-ok
returns-in_ok-insert_id-in-Some-clause-ok c =
    let tables = c.args.self.now.tables in
    let table = c.as_str.result.now in
    let had : get_by_text tables table ≡ Some c.in-Some.ids.now = sym c.in-Some.ensures.value in
    let set = c.get_mut.follows.lender c.insert_id.new.ids in
    let sets = btree_map_updates_text table tables set (Some c.insert_id.new.ids) ((c.get_mut.follows.holds c.insert_id.new.ids).3 (search rules)) in
    let all : Places table c.args.id (Some c.args.place) tables set = placed table c.args.id tables set (Some c.in-Some.ids.now) (Some c.insert_id.new.ids) had sets (Some c.args.place) c.in_ok-insert_id-in-Some.ensures.ok in
    subst (λ (x : List ℕ). Places x c.args.id (Some c.args.place) tables set) c.as_str.ensures all

pub returns-in_ok-insert-in-None-clause-ok : goal.returns-in_ok-insert-in-None-clause-ok
returns-in_ok-insert-in-None-clause-ok c =
    let tables = c.args.self.now.tables in
    let same : c.get_mut.follows.lender-at-none ≡ tables = search rules in
    let table = c.as_str.result.now in
    let ids = c.insert_id-in-None.new.ids in
    let had : get_by_text tables table ≡ None = sym c.in-None.ensures.value in
    let new = c.insert.new.self in
    let key : string_bytes c.into_string.result ≡ table = c.into_string.ensures ∙ sym c.as_str.ensures in
    let sets = rw key at (btree_map_updates_text (string_bytes c.into_string.result) tables new (Some ids) (rw same at c.in_ok-insert-in-None.ensures.updates)) in
    let made = λ (i : List ℕ). c.in_ok-insert_id-in-None.ensures.ok i ∙ ap (λ (o : Option ℕ). cond (is_same c.args.id i) (Some c.args.place) o) (none-text c.new-ids.result c.new-ids.ensures.empty i) in
    let all : Places table c.args.id (Some c.args.place) tables new = placed table c.args.id tables new None (Some ids) had sets (Some c.args.place) made in
    subst (λ (x : List ℕ). Places x c.args.id (Some c.args.place) tables new) c.as_str.ensures all
