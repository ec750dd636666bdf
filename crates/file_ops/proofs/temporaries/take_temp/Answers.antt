use Rattle.file_ops.proofs.OwnSeats.{room-free, room-full, seats-kept}
use Rattle.file_ops.proofs.temporaries.take_temp.Goals as goal

pub returns-in-Ok-clause-full : goal.returns-in-Ok-clause-full
returns-in-Ok-clause-full c = λ has e. room-free c.args.temps.now c.reserve.new.self c.args.seat has e c.reserve.ensures.kept c.in-Ok.ensures.ok.0

pub returns-in-Ok-clause-kept : goal.returns-in-Ok-clause-kept
returns-in-Ok-clause-kept c = (seats-kept c.args.temps.now.seats c.reserve.new.self.seats c.args.seat c.reserve.ensures.kept, c.reserve.ensures.taken)

pub returns-in-Err-Full-clause-full : goal.returns-in-Err-Full-clause-full
returns-in-Err-Full-clause-full c = λ has e. room-full c.args.temps.now c.args.seat has e (rw c.in-Err-Full.field-0-is at c.in-Err-Full.ensures.refused)

pub returns-in-Err-Full-clause-kept : goal.returns-in-Err-Full-clause-kept
returns-in-Err-Full-clause-kept c = (seats-kept c.args.temps.now.seats c.reserve.new.self.seats c.args.seat c.reserve.ensures.kept, c.reserve.ensures.taken)

pub returns-in-Err-Memory-clause-kept : goal.returns-in-Err-Memory-clause-kept
returns-in-Err-Memory-clause-kept c = (seats-kept c.args.temps.now.seats c.reserve.new.self.seats c.args.seat c.reserve.ensures.kept, c.reserve.ensures.taken)
