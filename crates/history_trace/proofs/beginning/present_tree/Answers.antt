use Rattle.std.proofs.Common.{List, [], ap, ◌∙◌}
use Rattle.std.proofs.lemmas.List.{take_all}
use Rattle.file_generations.specs.Generations.{held_with}
use Rattle.host_tree.specs.Devices.{QuietState}
use Rattle.portal_model.specs.declared.opening.FileItem.{FileItem}
use Rattle.portal_model.specs.Opening.{held_items}
use Rattle.history_trace.specs.Replayed.{tree_begun}
use Rattle.history_trace.proofs.TreeFiles.{held-next, named-here, placed-next, present-next}
use Rattle.history_trace.proofs.beginning.present_tree.Goals as goal

pub add_present-requires-clause-path : goal.add_present-requires-clause-path
add_present-requires-clause-path c = named-here c.args.files.now c.loop-item.item-index c.item-item.result c.loop-item-test.true c.item-item.is c.requires.names

pub add_present-requires-clause-fresh : goal.add_present-requires-clause-fresh
add_present-requires-clause-fresh c = ap (λ (t : QuietState). t.made) c.loop-item.invariant

pub add_present-requires-clause-placed : goal.add_present-requires-clause-placed
add_present-requires-clause-placed c =
    placed-next c.args.files.now c.loop-item.item-index c.item-item.result c.loop-item-test.true c.item-item.is c.requires.placed c.loop-item.tree c.loop-item.invariant

pub add_present-requires-clause-held : goal.add_present-requires-clause-held
add_present-requires-clause-held c h =
    held-next c.args.files.now c.loop-item.item-index c.item-item.result c.loop-item-test.true c.item-item.is c.requires.placed c.loop-item.tree c.loop-item.invariant

pub loop-item-preserved : goal.loop-item-preserved
loop-item-preserved c =
    c.in_ok-add_present.ensures
    ∙ present-next c.args.files.now c.loop-item.item-index c.item-item.result c.loop-item-test.true c.item-item.is c.requires.placed c.loop-item.tree c.loop-item.invariant

pub returns : goal.returns
returns c =
    c.loop-item.invariant
    ∙ ap (λ (items : List FileItem). tree_begun (held_with (held_items items).present [])) (take_all c.loop-item.item-index c.args.files.now c.loop-item-test.false)
