use Rattle.save_files.proofs.WithinLimit.{within-kept}
use Rattle.save_files.proofs.temps.Temps.reserve.Goals as goal

pub invariant_of-self : goal.invariant_of-self
invariant_of-self c = within-kept _ _ c.args.seat c.reserve_on.ensures.kept c.self.invariant
