use Rattle.std.proofs.Common.{ap, option_copied, sym, ◌∙◌}
use Rattle.std.specs.Option.{option_map}
use Rattle.save_files.specs.Own.{own_on}
use Rattle.file_ops.specs.Temporaries.{entry_told}
use Rattle.file_ops.proofs.OwnSeats.{at-none, at-some, at-there}
use Rattle.file_ops.proofs.temporaries.own_at.Goals as goal

pub returns-in_err-k : goal.returns-in_err-k
returns-in_err-k c = λ has e. ap (option_map entry_told) c.from_residual.ensures ∙ at-none c.args.place (own_on c.args.temps.now.seats c.args.seat) has e (sym c.in_err-k.ensures)

pub returns-in-Some : goal.returns-in-Some
returns-in-Some c = λ has e.
    at-some c.args.place (own_on c.args.temps.now.seats c.args.seat) has c.in_ok-k.k c.in-Some.temp.now e c.get.ensures.known
    (sym c.in_ok-k.ensures) (sym c.get.ensures.temp ∙ ap option_copied c.in-Some.is)

pub returns-in-None : goal.returns-in-None
returns-in-None c = λ has e.
    absurd (at-there c.args.place (own_on c.args.temps.now.seats c.args.seat) c.in_ok-k.k (sym c.in_ok-k.ensures) (sym c.get.ensures.temp ∙ ap option_copied c.in-None.is))
