use Rattle.std.proofs.Common.{ap, subst}
use Rattle.save_files.specs.Own.{AtSeat, Enters}
use Rattle.save_files.specs.Tables.{TempTable}
use Rattle.save_files.proofs.OwnLemmas.{enters-as}
use Rattle.save_files.proofs.WithinLimit.{within-entered}
use Rattle.save_files.proofs.temps.Temps.enter.Goals as goal

pub returns-clause-ok : goal.returns-clause-ok
returns-clause-ok c =
    subst (λ es. AtSeat Enters es c.insert.new.self.entries c.args.seat) (ap (λ (t : TempTable). t.seats) c.self.view_is)
    (enters-as _ _ c.args.seat c.new.result c.in_ok-insert.ensures.updates.1 c.new.ensures c.in_ok-insert.ensures.updates.2)

pub invariant_of-self-2 : goal.invariant_of-self-2
invariant_of-self-2 c =
    within-entered _ _ c.args.seat
    (enters-as _ _ c.args.seat c.new.result c.in_ok-insert.ensures.updates.1 c.new.ensures c.in_ok-insert.ensures.updates.2) c.self.invariant
