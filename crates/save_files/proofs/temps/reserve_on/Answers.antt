use Rattle.save_files.proofs.Outcomes.{room-refused}
use Rattle.save_files.proofs.temps.reserve_on.Goals as goal

pub returns-then-is_err-clause-refused : goal.returns-then-is_err-clause-refused
returns-then-is_err-clause-refused c = room-refused _ _ c.args.seat c.room_on.ensures.kept c.in_ok-room_on.ensures.ok
