use Rattle.connection_laws.proofs.RepliesSoFar.{replies-so-far}
use Rattle.connection_laws.proofs.laws.replies_so_far_are_of_the_trace_so_far.Goals as goal

pub returns : goal.returns
returns c = replies-so-far
