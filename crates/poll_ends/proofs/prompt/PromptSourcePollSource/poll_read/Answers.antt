use Rattle.poll_ends.proofs.Flat.{one_fault, same_faults}
use Rattle.poll_ends.proofs.prompt.PromptSourcePollSource.poll_read.Goals as goal

pub returns-in-Got-clause-counts : goal.returns-in-Got-clause-counts
returns-in-Got-clause-counts g c = same_faults (g.S.Source.faults c.args.self.now.source) (g.S.Source.faults c.read.new.self) c.in-Got.ensures.counts

pub returns-in-End-clause-counts : goal.returns-in-End-clause-counts
returns-in-End-clause-counts g c = same_faults (g.S.Source.faults c.args.self.now.source) (g.S.Source.faults c.read.new.self) c.in-End.ensures.counts

pub returns-in-Failed-clause-counts : goal.returns-in-Failed-clause-counts
returns-in-Failed-clause-counts g c = one_fault (g.S.Source.faults c.args.self.now.source) (g.S.Source.faults c.read.new.self) c.in-Failed.ensures.counts
