use Rattle.std.proofs.Common.{◌≡◌, take}
use Rattle.portal_model.specs.OpenDir.{names_of_children}
use Rattle.app_view.proofs.entries.names_of_children.Given as goal

-- the names so far
abbrev pub invariant-loop-child : goal.invariant-loop-child
invariant-loop-child l = l.names ≡ names_of_children (take l.child-index l.children)
