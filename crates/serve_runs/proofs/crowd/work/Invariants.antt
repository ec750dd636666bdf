use Rattle.turn_desk.specs.Sights.{Stays}
use Rattle.serve_runs.proofs.crowd.work.Given as goal

abbrev pub invariant-loop : goal.invariant-loop
invariant-loop g l = Stays l.fn.pass l.seat
