use Rattle.std.proofs.Common.{ap}
use Rattle.std.specs.Option.{option_copied}
use Rattle.portal_model.specs.Fsync.{fsync}
use Rattle.node_looks.proofs.OpenFiles.{with-handle}
use Rattle.node_looks.proofs.synced.synced.Goals as goal

pub returns-in-None-clause-ok : goal.returns-in-None-clause-ok
returns-in-None-clause-ok g c = with-handle fsync _ _ _ _ _ (ap option_copied c.in-None.is) (c.refused.ensures _)
