use Rattle.grant_revoke.proofs.ArgumentLemmas.{broken-name}
use Rattle.grant_revoke.proofs.arguments.named.Goals as goal

pub returns-in-Err-BadName-clause-err : goal.returns-in-Err-BadName-clause-err
returns-in-Err-BadName-clause-err c = broken-name c.args.text.now c.in-Err-BadName.field-0-0 (rw c.in-Err-BadName.field-0-is at c.in-Err-BadName.ensures.bad)
