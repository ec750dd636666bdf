use Rattle.open_handles.proofs.WithinLimit.{within-left}
use Rattle.open_handles.proofs.handles.Handles.leave.Goals as goal

pub invariant_of-self : goal.invariant_of-self
invariant_of-self c =
    within-left c.self.inside.most _ _ c.args.seat (record { there = c.swap_remove.ensures.updates.1; elsewhere = c.swap_remove.ensures.updates.2 }) c.self.invariant
