use Rattle.file_ops.proofs.OwnSeats.{drops-temped}
use Rattle.file_ops.proofs.temporaries.drop_temp.Goals as goal

pub returns-clause-temps : goal.returns-clause-temps
returns-clause-temps c = drops-temped c.args.k c.args.temps.now c.remove.new.self c.args.seat c.get.ensures.known c.remove.ensures.rest
