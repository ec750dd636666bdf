use Rattle.std.proofs.Common.{ap, option_copied, sym, ◌∙◌}
use Rattle.std.specs.Option.{option_map}
use Rattle.save_files.specs.Own.{own_on}
use Rattle.file_ops.specs.Temporaries.{entry_told}
use Rattle.file_ops.proofs.OwnSeats.{called-none, called-some, called-there}
use Rattle.file_ops.proofs.temporaries.own_called.Goals as goal

pub returns-in_err-k-clause-found : goal.returns-in_err-k-clause-found
returns-in_err-k-clause-found c = λ has e.
    ap (option_map entry_told) c.from_residual.ensures ∙ called-none c.args.view c.args.document c.args.name.now (own_on c.args.temps.now.seats c.args.seat) has e (sym c.in_err-k.ensures)

pub returns-in-Some-clause-found : goal.returns-in-Some-clause-found
returns-in-Some-clause-found c = λ has e.
    called-some c.args.view c.args.document c.args.name.now (own_on c.args.temps.now.seats c.args.seat) has c.in_ok-k.k c.in-Some.temp.now e c.get.ensures.known
    (sym c.in_ok-k.ensures) (sym c.get.ensures.temp ∙ ap option_copied c.in-Some.is)

pub returns-in-None-clause-found : goal.returns-in-None-clause-found
returns-in-None-clause-found c = λ has e.
    absurd (called-there c.args.view c.args.document c.args.name.now (own_on c.args.temps.now.seats c.args.seat) c.in_ok-k.k (sym c.in_ok-k.ensures) (sym c.get.ensures.temp ∙ ap option_copied c.in-None.is))
