use Rattle.poll_laws.proofs.LawsOfPolls.{join}
use Rattle.poll_laws.proofs.laws.polls_join.Goals as goal

pub returns : goal.returns
returns c = join
