use Rattle.script_replay.proofs.RunLine.{open_opens, open_room}
use Rattle.script_replay.proofs.line.open.Goals as goal

pub begin-requires-clause-room : goal.begin-requires-clause-room
begin-requires-clause-room c = open_room c.args.portal.now c.args.connections.now c.args.seat c.args.kind c.args.who.now c.requires.may

pub returns-clause-ok : goal.returns-clause-ok
returns-clause-ok c =
    open_opens c.args.portal.now c.begin.new.portal c.args.connections.now c.put.new.self c.args.seat c.args.kind c.args.who.now c.args.settings.now c.in_ok-session.session c.requires.settings c.in_ok-session.ensures.opening c.in_ok-session.ensures.ok
    c.in_ok-put.ensures.ok
