use Rattle.call_laws.proofs.LocalReturns.{locals_signed}
use Rattle.call_laws.proofs.returns.local_returns_have_their_signatures.Goals as goal

pub returns : goal.returns
returns c settings call method to body asks is = locals_signed settings call method to body asks is
