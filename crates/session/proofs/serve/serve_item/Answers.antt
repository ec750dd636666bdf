use Rattle.std.proofs.Common.{sym, ◌∙◌}
use Rattle.session.specs.Ledger.{world}
use Rattle.session.specs.Rooms.{IsTakenFor}
use Rattle.session.specs.Standings.{stage}
use Rattle.session.proofs.FrameRoom.{where_done}
use Rattle.session.proofs.ServeItem.{item_halts}
use Rattle.session.proofs.serve.serve_item.Goals as goal

-- the room is taken
pub serve_act-requires-clause-taken : goal.serve_act-requires-clause-taken
serve_act-requires-clause-taken g c =
    where_done (IsTakenFor c.args.client.now c.args.stage.now.serial c.in-Ok.act c.take.new.self) c.take.result (sym c.if-is_err.false ∙ c.is_err.ensures.value) c.take.ensures

-- there was room for what isn't told, where it has to be
pub returns-in-Err-clause-ends : goal.returns-in-Err-clause-ends
returns-in-Err-clause-ends g c =
    let v = world (g.D.Desk.seated c.args.desk.now) (g.K.Sink.told c.args.sink.now) (g.K.Sink.faults c.args.sink.now) in
    let w = world (g.D.Desk.seated c.serve_act.new.desk) (g.K.Sink.told c.serve_act.new.sink) (g.K.Sink.faults c.serve_act.new.sink) in
    item_halts c.args.client.now c.args.stage.now (stage c.read_item.new.phase c.args.stage.now.serial) v w c.args.item.now c.in-Ok.act c.in-Err.halt c.in-Ok.ensures.means c.in-Err.ensures.ends c.in-Err.ensures.lacks
