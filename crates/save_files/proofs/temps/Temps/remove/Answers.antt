use Rattle.save_files.proofs.WithinLimit.{within-removed}
use Rattle.save_files.proofs.temps.Temps.remove.Goals as goal

pub invariant_of-self : goal.invariant_of-self
invariant_of-self c = within-removed c.args.k _ _ c.args.seat c.remove_on.ensures.rest c.self.invariant
