use Rattle.std.proofs.Common.{Err, ◌∙◌, ap}
use Rattle.script_replay.proofs.BeginAndEnd.{never_full, entered}
use Rattle.script_replay.proofs.seats.begin.Goals as goal

pub unreachable-requires : goal.unreachable-requires
unreachable-requires c =
    let e = c.begin_at.ensures in
    never_full c.args.portal.now c.begin_at.new.portal c.args.seat e.opens.0 c.args.who.now c.args.kind c.args.settings.now c.begin_at.result c.in-Err-Full.field-0-0 c.in-Err-Full.field-0-1
    e.opening e.opens.1 e.legal c.requires.room (c.in-Err-Full.is ∙ ap Err c.in-Err-Full.field-0-is) e.opens.2

pub returns-in-Ok-clause-ok : goal.returns-in-Ok-clause-ok
returns-in-Ok-clause-ok c =
    let e = c.begin_at.ensures in
    entered c.args.portal.now c.begin_at.new.portal c.args.seat e.opens.0 c.args.who.now c.args.kind c.args.settings.now c.begin_at.result c.in-Ok.session
    e.opening e.opens.1 e.legal c.requires.told c.in-Ok.is e.opens.2
