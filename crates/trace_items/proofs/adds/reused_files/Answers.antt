use Rattle.std.proofs.Common.{List, ap, take_all, ◌∙◌}
use Rattle.std.specs.List.{flat_map}
use Rattle.add_files.specs.declared.plan.PlanItem.{PlanItem}
use Rattle.trace_items.specs.OwnAdds.{reused_here}
use Rattle.trace_items.proofs.OwnAddLaws.{reused-of-items}
use Rattle.trace_items.proofs.adds.reused_files.Goals as goal

pub returns : goal.returns
returns c =
    c.loop-item.invariant
    ∙ (ap (λ (xs : List PlanItem). flat_map (λ (x : PlanItem). reused_here c.args.documents.now.live c.args.add.now x.path) xs) (take_all _ _ c.loop-item-test.false)
    ∙ reused-of-items c.args.documents.now.live c.args.add.now c.args.items.now)
