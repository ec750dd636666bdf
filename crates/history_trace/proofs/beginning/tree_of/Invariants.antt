use Rattle.std.proofs.Common.{◌≡◌, take}
use Rattle.file_generations.specs.Generations.{held_with}
use Rattle.portal_model.specs.Opening.{held_items}
use Rattle.history_trace.specs.Replayed.{tree_begun}
use Rattle.history_trace.proofs.beginning.tree_of.Given as goal

-- the present ones, and those beside them so far
abbrev pub invariant-loop-item : goal.invariant-loop-item
invariant-loop-item l = l.tree ≡ tree_begun (held_with (held_items l.files).present (held_items (take l.item-index l.files)).hidden)
