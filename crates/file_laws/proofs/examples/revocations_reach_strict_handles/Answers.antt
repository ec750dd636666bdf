use Rattle.file_laws.proofs.StrictExampleProofs.{reaching}
use Rattle.file_laws.proofs.examples.revocations_reach_strict_handles.Goals as goal

pub returns : goal.returns
returns c = reaching
