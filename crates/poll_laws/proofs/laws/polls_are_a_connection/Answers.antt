use Rattle.poll_laws.proofs.LawsOfPolls.{whole}
use Rattle.poll_laws.proofs.laws.polls_are_a_connection.Goals as goal

pub returns : goal.returns
returns c = whole
