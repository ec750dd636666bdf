use Rattle.std.proofs.Common.{ap}
use Rattle.poll_vectors.proofs.Shy.{put_off_here}
use Rattle.poll_vectors.proofs.outside.ShyDeskTryDesk.try_ask.Goals as goal

pub returns-then-is_shy-clause-attempts : goal.returns-then-is_shy-clause-attempts
returns-then-is_shy-clause-attempts g c =
    put_off_here (g.D.TryDesk.seated c.args.self.now.desk) (g.D.TryDesk.seated c.is_shy.new.self.desk) c.args.request (ap g.D.TryDesk.seated c.is_shy.ensures.desk)
