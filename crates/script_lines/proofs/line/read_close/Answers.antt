use Rattle.script_lines.proofs.LineFacts.{close_line, close_made}
use Rattle.script_lines.proofs.line.read_close.Goals as goal

pub returns-in_err-seat : goal.returns-in_err-seat
returns-in_err-seat c = rw c.from_residual.ensures (λ line rules same.
    let t = close_line c.args.rest.now line rules same in
    c.in_err-seat.ensures t.0 t.1)

pub returns : goal.returns
returns c =
    let seat = c.in_ok-seat.ensures in
    ((seat.low, seat.high), close_made c.args.rest.now _ seat.same)
