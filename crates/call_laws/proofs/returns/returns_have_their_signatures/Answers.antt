use Rattle.call_laws.proofs.PortalReturns.{returns_signed}
use Rattle.call_laws.proofs.returns.returns_have_their_signatures.Goals as goal

pub returns : goal.returns
returns c settings call method s e valid asks is told = returns_signed settings call method s e valid asks is told
