use Rattle.open_handles.proofs.WithinLimit.{within-released}
use Rattle.open_handles.proofs.handles.Handles.release.Goals as goal

pub invariant_of-self : goal.invariant_of-self
invariant_of-self c = within-released c.self.inside.most c.args.fh _ _ c.args.seat c.release_on.ensures.rest c.self.invariant
