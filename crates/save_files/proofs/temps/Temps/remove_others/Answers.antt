use Rattle.save_files.proofs.WithinLimit.{within-others}
use Rattle.save_files.proofs.temps.Temps.remove_others.Goals as goal

pub invariant_of-self : goal.invariant_of-self
invariant_of-self c = within-others c.args.k c.args.view c.args.document.number c.args.name.now _ _ c.args.seat c.remove_others_on.ensures c.self.invariant
