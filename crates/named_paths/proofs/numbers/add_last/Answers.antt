use Rattle.named_paths.proofs.KeptNumbers.{none-last, ok-then}
use Rattle.named_paths.proofs.numbers.add_last.Goals as goal

pub returns-in-None : goal.returns-in-None
returns-in-None c =
    none-last c.args.seat c.args.last c.args.handles.now.seats c.args.numbers.now
    c.in-None.ensures.handle

pub returns-in-Some : goal.returns-in-Some
returns-in-Some c =
    ok-then c.add_number.result _ _ (λ e s n there was. e s n was) c.add_number.ensures
