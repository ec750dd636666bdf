use Rattle.save_files.proofs.OwnLemmas.{still-numbered}
use Rattle.save_files.proofs.own.SeatTemps.remove.Goals as goal

pub invariant_of-self : goal.invariant_of-self
invariant_of-self c = still-numbered _ _ _ c.args.k c.self.invariant c.shift_remove.ensures.updates.0 c.shift_remove.ensures.unique
