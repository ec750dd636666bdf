use Rattle.save_files.proofs.WithinLimit.{within-left}
use Rattle.save_files.proofs.temps.Temps.leave.Goals as goal

pub invariant_of-self : goal.invariant_of-self
invariant_of-self c =
    within-left _ _ c.args.seat (record { there = c.swap_remove.ensures.updates.1; elsewhere = c.swap_remove.ensures.updates.2 }) c.self.invariant
