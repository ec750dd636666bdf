use Rattle.save_files.proofs.WithinLimit.{within-after-add}
use Rattle.save_files.proofs.temps.Temps.add.Goals as goal

pub invariant_of-self : goal.invariant_of-self
invariant_of-self c = within-after-add c.add_on.result _ c.args.temp _ _ c.args.seat c.add_on.ensures.ok c.add_on.ensures.err c.self.invariant
