use Rattle.std.proofs.Common.{◌≡◌, ◌∷◌, [], ◌∙◌, ap, sym, List, length, reverse, arith}
use Rattle.std.specs.List.{filter}
use Rattle.std.specs.Vec.Iter.{into_iter_items}
use Rattle.portal_model.specs.Ordered.{is_rising, put_all}
use Rattle.portal_model.specs.Rows.{has_names, row_less}
use Rattle.portal_model.specs.declared.records.Row.{Row}
use Rattle.permission_table.proofs.StableRows.{all-put, nothing_left, put-next, put-sorted, put_each, rising-next}
use Rattle.permission_table.proofs.rows.stored_rows.Goals as goal

pub loop-row-preserved : goal.loop-row-preserved
loop-row-preserved c =
    let at = c.loop-row in
    let rest = into_iter_items c.next.new.self in
    let steps : into_iter_items at.row-iterator ≡ c.in-Some.row ∷ rest = c.in-Some.ensures.steps.0 in
    let now = c.in_ok-put_in_order.ensures.ok in
    record {
      put = ap (λ (rs : List Row). put_each rs rest) now ∙ (put-next at.stored.items (into_iter_items at.row-iterator) rest c.in-Some.row steps ∙ at.invariant.put);
      order = ap (λ (rs : List Row). is_rising row_less rs) now ∙ rising-next at.stored.items c.in-Some.row at.invariant.order;
      count =
          let was = at.invariant.count in
          let gone = c.in-Some.ensures.steps.1 in
          let short = ap length steps in
          omega arith;
    }

pub returns : goal.returns
returns c =
    let at = c.loop-row in
    let empty : into_iter_items at.row-iterator ≡ [] = nothing_left (into_iter_items at.row-iterator) (sym at.invariant.count ∙ c.in-None.ensures.steps.0) in
    let all : at.stored.items ≡ put_each [] c.sort_stably.new.items.items =
    ap (λ (rs : List Row). put_each at.stored.items rs) (sym empty) ∙ (at.invariant.put ∙ ap (put_each []) c.into_iter-row-iterator.ensures.into_iter_gives.0) in
    let last : at.stored.items ≡ put_all row_less (reverse c.args.rows.now) =
    all ∙ (all-put c.sort_stably.new.items.items
    ∙ (put-sorted c.in_ok-sorted.sorted.items c.sort_stably.new.items.items c.sort_stably.ensures.stable
    ∙ ap (λ (rs : List Row). put_all row_less (reverse rs)) c.in_ok-sorted.ensures)) in
    c.from_vec.ensures ∙ (c.leave_named.ensures ∙ ap (filter has_names) last)
