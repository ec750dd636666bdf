use Rattle.script_replay.proofs.BeginAndEnd.{left}
use Rattle.script_replay.proofs.seats.end.Goals as goal

pub returns-clause-left : goal.returns-clause-left
returns-clause-left c =
    let e = c.end_at.ensures in
    left c.args.portal.now c.end_at.new.portal c.args.seat e.closes.0 c.args.session c.end_at.result e.opening e.closes.1 e.legal c.requires.told e.closes.2
