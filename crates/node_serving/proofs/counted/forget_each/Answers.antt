use Rattle.std.proofs.Common.{◌≡◌, ◌+◌, ◌∷◌, ℕ, List, arith, drop, get_or, refl, subst, sym}
use Rattle.std.proofs.lemmas.List.{drop_all, drop_more}
use Rattle.inode_table.specs.declared.inodes.SeatNode.{SeatNode}
use Rattle.node_serving.specs.Counted.{AreForgotten}
use Rattle.portal_model.specs.declared.request.ForgetItem.{ForgetItem}
use Rattle.node_serving.proofs.counted.forget_each.Goals as goal

pub loop-item-init : goal.loop-item-init
loop-item-init c = record { left = λ new h. h; room = omega arith }

pub loop-item-preserved : goal.loop-item-preserved
loop-item-preserved c =
    let items : List ForgetItem = c.args.items.now in
    let i : ℕ = c.loop-item.item-index in
    let none : ForgetItem = record { node = 0; count = 0 } in
    let left : drop i items ≡ get_or items i none ∷ drop (i + 1) items = drop_more items i none c.loop-item-test.true in
    record {
      left = λ new h. c.loop-item.invariant.left new (subst (λ l. AreForgotten c.args.seat l c.loop-item.counts.counts new) (sym left) (c.forget.new.self.counts, c.forget.ensures.counts, h));
      room = omega arith;
    }

pub returns-clause-counts : goal.returns-clause-counts
returns-clause-counts c =
    let counts : List (SeatNode × ℕ) = c.loop-item.counts.counts in
    c.loop-item.invariant.left counts (subst (λ l. AreForgotten c.args.seat l counts counts) (sym (drop_all c.loop-item.item-index c.args.items.now c.loop-item-test.false)) refl)
