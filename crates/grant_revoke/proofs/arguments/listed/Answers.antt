use Rattle.std.proofs.Common.{refl}
use Rattle.grant_revoke.proofs.ArgumentLemmas.{unknown-name}
use Rattle.grant_revoke.proofs.arguments.listed.Goals as goal

pub returns-in-Err-clause-err : goal.returns-in-Err-clause-err
returns-in-Err-clause-err c = (refl, let told = c.in-Err.ensures.err in unknown-name c.args.names.now told.0 told.1.text told.1.here told.1.unknown)
