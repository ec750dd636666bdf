use Rattle.save_files.specs.Own.{with_name}
use Rattle.save_files.proofs.OwnLemmas.{none-still, numbered-still}
use Rattle.save_files.proofs.own.SeatTemps.rename.Goals as goal

pub invariant_of-self : goal.invariant_of-self
invariant_of-self c =
    numbered-still c.self.inside.added _ _ c.self.invariant c.rename_in.ensures.keys
    (none-still _ _ c.args.k (with_name c.args.name) c.rename_in.ensures.updates.0)
