use Rattle.session.proofs.SessionCalls.{leave_closes, leave_isolated, left_of}
use Rattle.session.proofs.session.leave.Goals as goal

pub returns : goal.returns
returns g c =
    let v = g.D.Desk.seated c.args.desk.now in
    let w = g.D.Desk.seated c.ask.new.self in
    let h = left_of v w c.ask.result c.requires c.ask.ensures.asks in
    record {
      left = h;
      closed_now = leave_closes v w h.0 c.known.ensures c.known-2.ensures h.1;
      isolated = leave_isolated v w h.0 c.known.ensures c.known-2.ensures h.1;
      goes = c.ask.ensures.goes;
    }
