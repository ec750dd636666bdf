use Rattle.std.proofs.Common.{List, ap, ◌∙◌}
use Rattle.std.proofs.lemmas.List.{take_all}
use Rattle.file_generations.specs.Generations.{held_with}
use Rattle.host_tree.specs.Devices.{QuietState, quiet_tree_of}
use Rattle.host_tree.specs.Trees.{settled}
use Rattle.portal_model.specs.declared.opening.FileItem.{FileItem}
use Rattle.portal_model.specs.Opening.{held_items}
use Rattle.history_trace.specs.Replayed.{tree_begun}
use Rattle.history_trace.proofs.TreeFiles.{beside-next, hidden-next, named-here, settled-with}
use Rattle.history_trace.proofs.beginning.tree_of.Goals as goal

pub add_hidden-requires-clause-path : goal.add_hidden-requires-clause-path
add_hidden-requires-clause-path c = named-here c.args.files.now c.loop-item.item-index c.item-item.result c.loop-item-test.true c.item-item.is c.requires.names

pub add_hidden-requires-clause-fresh : goal.add_hidden-requires-clause-fresh
add_hidden-requires-clause-fresh c = ap (λ (t : QuietState). t.made) c.loop-item.invariant

pub add_hidden-requires-clause-held : goal.add_hidden-requires-clause-held
add_hidden-requires-clause-held c =
    beside-next c.args.files.now c.loop-item.item-index c.item-item.result c.loop-item-test.true c.item-item.is c.requires.held c.loop-item.tree c.loop-item.invariant

pub loop-item-preserved : goal.loop-item-preserved
loop-item-preserved c =
    c.in_ok-add_hidden.ensures
    ∙ hidden-next c.args.files.now c.loop-item.item-index c.item-item.result c.loop-item-test.true c.item-item.is c.loop-item.tree c.loop-item.invariant

pub returns : goal.returns
returns c =
    let items = c.args.files.now in
    settled-with c.settle.new.self (held_items items)
    (c.in_ok-settle.ensures.ok
    ∙ (ap (λ (t : QuietState). settled (quiet_tree_of t)) c.loop-item.invariant
    ∙ ap (λ (xs : List FileItem). settled (quiet_tree_of (tree_begun (held_with (held_items items).present (held_items xs).hidden)))) (take_all c.loop-item.item-index items c.loop-item-test.false)))
