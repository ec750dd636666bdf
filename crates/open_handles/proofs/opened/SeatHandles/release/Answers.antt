use Rattle.open_handles.proofs.OpenedLemmas.{still-numbered}
use Rattle.open_handles.proofs.opened.SeatHandles.release.Goals as goal

pub invariant_of-self : goal.invariant_of-self
invariant_of-self c = still-numbered _ _ _ c.args.fh c.self.invariant c.shift_remove.ensures.updates.0 c.shift_remove.ensures.unique
