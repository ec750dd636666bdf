use Rattle.session.proofs.EndingsAreTheStreams.{endings_are}
use Rattle.session.proofs.laws.endings_are_the_streams.Goals as goal

pub returns : goal.returns
returns c = endings_are
