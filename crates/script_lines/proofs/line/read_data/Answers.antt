use Rattle.script_lines.proofs.LineFacts.{data_line, data_cut, no_data, data_made}
use Rattle.script_lines.proofs.line.read_data.Goals as goal

pub returns-in_default : goal.returns-in_default
returns-in_default c = λ line rules same. no_data c.args.rest.now c.in_default.ensures (data_line c.args.rest.now line rules same)

pub returns-in_default-read_seat : goal.returns-in_default-read_seat
returns-in_default-read_seat c = λ line rules same.
    let t = data_line c.args.rest.now line rules same in
    let halves = data_cut c.args.rest.now _ _ t c.in-Some.ensures in
    c.in_default-read_seat.ensures t.seat (record { low = t.rules.0; high = t.rules.1; same = halves.0 })

pub returns-in_default-2 : goal.returns-in_default-2
returns-in_default-2 c = λ line rules same.
    let t = data_line c.args.rest.now line rules same in
    let halves = data_cut c.args.rest.now _ _ t c.in-Some.ensures in
    (rw c.in_default-2.is at c.in_ok-bytes.ensures) t.bytes t.rules.2 halves.1

pub returns : goal.returns
returns c =
    let seat = c.in-Some-read_seat.ensures in
    let bytes = rw c.in-Some-2.is at c.in_ok-bytes.ensures in
    ((seat.low, seat.high, bytes.0), data_made c.args.rest.now _ _ _ _ c.in-Some.ensures seat.same bytes.1)
