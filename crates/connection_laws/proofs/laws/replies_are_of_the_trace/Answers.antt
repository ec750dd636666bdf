use Rattle.connection_laws.proofs.Replies.{replies-are}
use Rattle.connection_laws.proofs.laws.replies_are_of_the_trace.Goals as goal

pub returns : goal.returns
returns c = replies-are
