use Rattle.std.proofs.Common.{◌≡◌, ◌≤◌, false, length, take, vec_len, vec_capacity}
use Rattle.add_calls.specs.Shown.{Asked, Shows}
use Rattle.add_calls.proofs.looks.look_all.Given as goal

-- what was shown so far
abbrev pub invariant-loop-path : goal.invariant-loop-path
invariant-loop-path g l =
    Shows (g.T.HostTree.is l.initial.tree).told (take l.path-index l.paths) l.looks.items false
    × Asked (g.T.HostTree.is l.initial.tree) (length l.looks.items) false (g.T.HostTree.is l.tree)
    × (vec_len l.looks ≡ l.path-index) × (length l.paths ≤ vec_capacity l.looks)
