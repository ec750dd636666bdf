use Rattle.script_lines.proofs.LineFacts.{open_line, open_cut, open_cut_kind, no_seat, no_kind, open_made}
use Rattle.script_lines.proofs.line.read_open.Goals as goal

pub returns-in_default : goal.returns-in_default
returns-in_default c = λ line rules same. no_seat c.args.rest.now c.in_default.ensures (open_line c.args.rest.now line rules same)

pub returns-in_default-cut : goal.returns-in_default-cut
returns-in_default-cut c = λ line rules same.
    no_kind c.args.rest.now _ _ (open_line c.args.rest.now line rules same) c.in-Some.ensures c.in_default-cut.ensures

pub returns-in_default-read_seat : goal.returns-in_default-read_seat
returns-in_default-read_seat c = λ line rules same.
    let t = open_line c.args.rest.now line rules same in
    let halves = open_cut c.args.rest.now _ _ t c.in-Some.ensures in
    c.in_default-read_seat.ensures t.seat (record { low = t.rules.0; high = t.rules.1; same = halves.0 })

pub returns-in_default-read_kind : goal.returns-in_default-read_kind
returns-in_default-read_kind c = λ line rules same.
    let t = open_line c.args.rest.now line rules same in
    c.in_default-read_kind.ensures t.kind (open_cut_kind c.args.rest.now _ _ _ _ t c.in-Some.ensures c.in-Some-cut.ensures).0

pub returns-in_default-2 : goal.returns-in_default-2
returns-in_default-2 c = λ line rules same.
    let t = open_line c.args.rest.now line rules same in
    let halves = open_cut_kind c.args.rest.now _ _ _ _ t c.in-Some.ensures c.in-Some-cut.ensures in
    (rw c.in_default-2.is at c.in_ok-who.ensures) t.who t.rules.2 halves.1

pub returns : goal.returns
returns c =
    let seat = c.in-Some-read_seat.ensures in
    let who = rw c.in-Some-2.is at c.in_ok-who.ensures in
    ((seat.low, seat.high, who.0), open_made c.args.rest.now _ _ _ _ _ _ _ c.in-Some.ensures c.in-Some-cut.ensures seat.same c.in-Some-read_kind.ensures who.1)
