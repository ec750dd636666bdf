use Rattle.std.proofs.Common.{ℕ, List, ◌++◌, ap, get_or, take_all, ◌∙◌, arith}
use Rattle.std.specs.List.{flat_map}
use Rattle.trace_items.specs.OwnAdds.{looked_at}
use Rattle.trace_items.proofs.OwnAddLaws.{as-many, item-path-at, shown-is, shown-more}
use Rattle.trace_items.proofs.adds.paths_shown.Goals as goal

pub push_looked_at-requires-clause-path : goal.push_looked_at-requires-clause-path
push_looked_at-requires-clause-path c =
    item-path-at c.args.queue.now c.args.add.now c.args.items.now c.requires.paths c.loop-index.index c.index-items-index.result c.as_slice.result.now c.as_slice.ensures c.loop-index-test.true

pub loop-index-preserved : goal.loop-index-preserved
loop-index-preserved c =
    c.in_ok-push_looked_at.ensures
    ∙ (ap (λ (ps : List (List ℕ)). ps ++ looked_at c.args.queue.now c.args.add.now (get_or c.as_slice.result.now c.loop-index.index 0)) c.loop-index.invariant
    ∙ shown-more (looked_at c.args.queue.now c.args.add.now) c.args.add.now.handles c.as_slice.result.now c.loop-index.index c.as_slice.ensures
    (omega (arith, c.loop-index-test.true, as-many c.args.queue.now c.args.add.now c.args.items.now c.requires.paths)))

pub returns : goal.returns
returns c =
    c.loop-index.invariant
    ∙ (ap (flat_map (looked_at c.args.queue.now c.args.add.now))
    (take_all c.loop-index.index c.args.add.now.handles (omega (arith, c.loop-index-test.false, as-many c.args.queue.now c.args.add.now c.args.items.now c.requires.paths)))
    ∙ shown-is c.args.queue.now c.args.add.now)
