use Rattle.std.proofs.Common.{◌≡◌, ◌++◌}
use Rattle.host_tree.specs.Children.{children_of}
use Rattle.host_tree.proofs.names.children.Given as goal

-- the list so far, and behind it what is left, are the names
abbrev pub invariant-loop-text : goal.invariant-loop-text
invariant-loop-text l = l.list ++ children_of l.text-iterator ≡ children_of l.fn.names.entries
