use Rattle.file_laws.proofs.StrictHandleLaws.{strict-follow}
use Rattle.file_laws.proofs.laws.strict_handles_follow_revocations.Goals as goal

pub returns : goal.returns
returns c = strict-follow
