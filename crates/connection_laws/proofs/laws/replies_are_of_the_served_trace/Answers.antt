use Rattle.connection_laws.proofs.ServedReplies.{served-replies}
use Rattle.connection_laws.proofs.laws.replies_are_of_the_served_trace.Goals as goal

pub returns : goal.returns
returns c = served-replies
