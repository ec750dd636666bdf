use Rattle.std.proofs.Common.{ℕ, List, length, Option}
use Rattle.futures.specs.Task.{Keeps}
use Rattle.poll_laws.specs.Courses.{sight, standing}
use Rattle.poll_ends.specs.Outside.{Counts}
use Rattle.poll_session.proofs.Serving.{Going}
use Rattle.poll_session.proofs.serve.serve_items.Given as goal

-- the items so far are served, and nothing was read
abbrev pub invariant-items : goal.invariant-items
invariant-items g l = record {
  going : (left : Option (List ℕ)) (reading : Counts) → Going 0 (standing l.fn.course)
      (sight (g.D.TryDesk.seated l.fn.desk) (g.D.TryDesk.busy l.fn.desk) left reading (g.K.PollSink.told l.fn.sink) (g.K.PollSink.counts l.fn.sink)) (standing l.course)
      (sight (g.D.TryDesk.seated l.desk) (g.D.TryDesk.busy l.desk) left reading (g.K.PollSink.told l.sink) (g.K.PollSink.counts l.sink));
  kept : Keeps l.fn.context l.context;
  goes : g.D.TryDesk.goes l.fn.desk l.desk;
}

abbrev pub decreases-items : goal.decreases-items
decreases-items g l = length l.course.left.items
