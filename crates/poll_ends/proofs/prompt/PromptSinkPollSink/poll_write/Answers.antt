use Rattle.std.proofs.Common.{arith}
use Rattle.poll_ends.proofs.Flat.{all_written, front_written, one_fault, same_faults}
use Rattle.poll_ends.proofs.prompt.PromptSinkPollSink.poll_write.Goals as goal

pub returns-in-Done-clause-writes : goal.returns-in-Done-clause-writes
returns-in-Done-clause-writes g c =
    (omega (arith, c.requires), omega arith, all_written (g.K.Sink.told c.args.self.now.sink) (g.K.Sink.told c.write.new.self) c.args.bytes.now c.in-Done.ensures.writes)

pub returns-in-Failed-clause-writes : goal.returns-in-Failed-clause-writes
returns-in-Failed-clause-writes g c = front_written (g.K.Sink.told c.args.self.now.sink) (g.K.Sink.told c.write.new.self) c.args.bytes.now c.in-Failed.ensures.writes

pub returns-in-Done-clause-counts : goal.returns-in-Done-clause-counts
returns-in-Done-clause-counts g c = same_faults (g.K.Sink.faults c.args.self.now.sink) (g.K.Sink.faults c.write.new.self) c.in-Done.ensures.counts

pub returns-in-Failed-clause-counts : goal.returns-in-Failed-clause-counts
returns-in-Failed-clause-counts g c = one_fault (g.K.Sink.faults c.args.self.now.sink) (g.K.Sink.faults c.write.new.self) c.in-Failed.ensures.counts
