use Rattle.file_ops.proofs.Numbers.{free-number, full-number, kept-names}
use Rattle.file_ops.proofs.numbered.take_number.Goals as goal

pub returns-in-Ok-clause-full : goal.returns-in-Ok-clause-full
returns-in-Ok-clause-full c = λ has e. free-number c.args.naming.now has c.args.namings.now c.reserve.new.self c.args.seat e c.reserve.ensures.kept c.in-Ok.ensures.ok

pub returns-in-Ok-clause-kept : goal.returns-in-Ok-clause-kept
returns-in-Ok-clause-kept c = kept-names c.args.seat c.args.namings.now c.reserve.new.self c.reserve.ensures.kept

pub returns-in-Err-Full-clause-full : goal.returns-in-Err-Full-clause-full
returns-in-Err-Full-clause-full c = λ has e. full-number c.args.naming.now has c.args.namings.now c.args.seat e (rw c.in-Err-Full.field-0-is at c.in-Err-Full.ensures.refused)

pub returns-in-Err-Full-clause-kept : goal.returns-in-Err-Full-clause-kept
returns-in-Err-Full-clause-kept c = kept-names c.args.seat c.args.namings.now c.reserve.new.self c.reserve.ensures.kept

pub returns-in-Err-Memory-clause-kept : goal.returns-in-Err-Memory-clause-kept
returns-in-Err-Memory-clause-kept c = kept-names c.args.seat c.args.namings.now c.reserve.new.self c.reserve.ensures.kept
