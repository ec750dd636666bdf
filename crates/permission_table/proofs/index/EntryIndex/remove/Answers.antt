use Rattle.std.proofs.Common.{rules, ◌≡◌, ◌∙◌, ℕ, List, Option, Some, None, [], ap, sym, subst}
use Rattle.std.specs.BTreeMap.{get_by_text}
use Rattle.std.proofs.lemmas.Map.Text.{btree_map_updates_text}
use Rattle.permission_table.specs.EntryIndex.{Places, place_of_id}
use Rattle.permission_table.proofs.IndexPlaces.{none-left, placed, set-and-lost}
use Rattle.permission_table.proofs.StableRows.{nothing_left}
use Rattle.permission_table.proofs.index.EntryIndex.remove.Goals as goal

pub returns-then-is_empty : goal.returns-then-is_empty
returns-then-is_empty c =
    let tables = c.args.self.now.tables in
    let table = c.as_str.result.now in
    let id = c.as_str-2.result.now in
    let had : get_by_text tables table ≡ Some c.in-Some.ids.now = sym c.in-Some.ensures.value in
    let set = c.get_mut.follows.lender c.remove.new.self in
    let left = c.remove-then-is_empty.new.self in
    let sets = btree_map_updates_text table tables set (Some c.remove.new.self) ((c.get_mut.follows.holds c.remove.new.self).3 (search rules)) in
    let lost = btree_map_updates_text id c.in-Some.ids.now c.remove.new.self None c.remove.ensures.updates in
    let again = btree_map_updates_text c.as_str-then-is_empty.result.now set left None c.remove-then-is_empty.ensures.updates in
    let same : c.as_str-then-is_empty.result.now ≡ table = c.as_str-then-is_empty.ensures ∙ sym c.as_str.ensures in
    let gone = set-and-lost table tables set left c.remove.new.self sets (rw same at again) in
    let empty : c.remove.new.self.entries ≡ [] = nothing_left c.remove.new.self.entries (c.is_empty.ensures.0 c.if-is_empty.true) in
    let all : Places table id None tables left = placed table id tables left (Some c.in-Some.ids.now) None had gone None (none-left id c.in-Some.ids.now c.remove.new.self empty lost) in
    subst (λ (x : List ℕ). Places x c.args.id.now None tables left) c.as_str.ensures (subst (λ (x : List ℕ). Places table x None tables left) c.as_str-2.ensures all)

pub returns-else-is_empty : goal.returns-else-is_empty
returns-else-is_empty c =
    let tables = c.args.self.now.tables in
    let table = c.as_str.result.now in
    let id = c.as_str-2.result.now in
    let set = c.get_mut.follows.lender c.remove.new.self in
    let had : get_by_text tables table ≡ Some c.in-Some.ids.now = sym c.in-Some.ensures.value in
    let sets = btree_map_updates_text table tables set (Some c.remove.new.self) ((c.get_mut.follows.holds c.remove.new.self).3 (search rules)) in
    let lost = btree_map_updates_text id c.in-Some.ids.now c.remove.new.self None c.remove.ensures.updates in
    let all : Places table id None tables set = placed table id tables set (Some c.in-Some.ids.now) (Some c.remove.new.self) had sets None lost in
    subst (λ (x : List ℕ). Places x c.args.id.now None tables set) c.as_str.ensures (subst (λ (x : List ℕ). Places table x None tables set) c.as_str-2.ensures all)
