use Rattle.named_paths.proofs.KeptNumbers.{left-open}
use Rattle.named_paths.proofs.numbers.drop_closed.Goals as goal

pub returns-in-None : goal.returns-in-None
returns-in-None c =
    left-open c.args.seat c.args.number c.args.handles.now.seats c.args.numbers.now
    c.drop_number.new.numbers c.in-None.ensures.handle c.drop_number.ensures
