use Rattle.std.proofs.Common.{length}
use Rattle.script_command.proofs.Parted.{StandAhead}
use Rattle.script_command.proofs.parting.part.Given as goal

abbrev pub invariant-loop-line : goal.invariant-loop-line
invariant-loop-line l = StandAhead l.text l.rest

abbrev pub decreases-loop-line : goal.decreases-loop-line
decreases-loop-line l = length l.rest
