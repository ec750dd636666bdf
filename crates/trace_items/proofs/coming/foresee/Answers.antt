use Rattle.std.proofs.Common.{option_copied}
use Rattle.trace_items.proofs.ComingLaws.{awaits, connection-lent}
use Rattle.trace_items.proofs.coming.foresee.Goals as goal

pub returns-in-Ok : goal.returns-in-Ok
returns-in-Ok c = λ s shows v l.
    let e = c.args.entry.now in
    let lend = connection-lent c.args.lent.now s e.seat (option_copied c.connection_of-connection.result) shows c.connection_of-connection.ensures in
    let comes = c.in_ok-change.ensures s shows v l lend in
    awaits c.args.app.now s e c.in-Ok.told c.in_ok-change.change comes (c.in-Ok.ensures s shows v l lend comes)
