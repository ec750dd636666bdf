use Rattle.session.proofs.HeardReplies.{meets_alike}
use Rattle.session.proofs.laws.given_replies_are_met.Goals as goal

pub returns : goal.returns
returns c = meets_alike
