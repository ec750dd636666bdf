use Rattle.save_files.proofs.WithinLimit.{within-renamed}
use Rattle.save_files.proofs.temps.Temps.rename.Goals as goal

pub invariant_of-self : goal.invariant_of-self
invariant_of-self c = within-renamed c.args.k _ _ _ c.args.seat c.rename_on.ensures c.self.invariant
