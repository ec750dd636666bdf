use Rattle.std.proofs.Common.{◌≡◌, take, false}
use Rattle.portal_model.specs.OpenDir.{names_in_root}
use Rattle.app_view.proofs.entries.names_in_root.Given as goal

-- the documents so far
abbrev pub invariant-loop-number : goal.invariant-loop-number
invariant-loop-number l = l.names ≡ names_in_root l.view (take l.number-index l.numbers) false
