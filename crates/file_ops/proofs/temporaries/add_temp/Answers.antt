use Rattle.file_ops.proofs.OwnSeats.{begins-number, begins-temped}
use Rattle.file_ops.proofs.temporaries.add_temp.Goals as goal

pub returns-clause-number : goal.returns-clause-number
returns-clause-number c = λ has e. begins-number c.in-Ok.k c.args.temp c.args.temps.now c.add.new.self c.args.seat has e c.in-Ok.ensures.ok

pub returns-clause-temps : goal.returns-clause-temps
returns-clause-temps c = begins-temped c.in-Ok.k c.args.temp c.args.temps.now c.add.new.self c.args.seat c.in-Ok.ensures.ok
