use Rattle.std.proofs.Common.{◌≡◌, ◌-◌, length}
use Rattle.futures.specs.Task.{Keeps}
use Rattle.session.specs.Pumps.{longest_piece}
use Rattle.poll_laws.specs.Courses.{sight, standing}
use Rattle.poll_laws.specs.Polls.{most_read}
use Rattle.poll_session.proofs.Serving.{Going}
use Rattle.poll_session.proofs.serve.attend.Given as goal

-- the pieces so far are served
abbrev pub invariant-pieces : goal.invariant-pieces
invariant-pieces g l = record {
  going : Going l.read (standing l.fn.course)
      (sight (g.D.TryDesk.seated l.fn.desk) (g.D.TryDesk.busy l.fn.desk) (g.S.PollSource.left l.fn.source) (g.S.PollSource.counts l.fn.source) (g.K.PollSink.told l.fn.sink) (g.K.PollSink.counts l.fn.sink)) (standing l.course)
      (sight (g.D.TryDesk.seated l.desk) (g.D.TryDesk.busy l.desk) (g.S.PollSource.left l.source) (g.S.PollSource.counts l.source) (g.K.PollSink.told l.sink) (g.K.PollSink.counts l.sink));
  long : length l.buffer ≡ longest_piece;
  kept : Keeps l.fn.context l.context;
  goes : g.D.TryDesk.goes l.fn.desk l.desk;
}

abbrev pub decreases-pieces : goal.decreases-pieces
decreases-pieces g l = most_read - l.read
