use Rattle.std.proofs.Common.{◌≤◌}
use Rattle.serve_command.proofs.descriptors.files_open.Given as goal

abbrev pub invariant-loop-entry : goal.invariant-loop-entry
invariant-loop-entry l = l.held ≤ 1000000
