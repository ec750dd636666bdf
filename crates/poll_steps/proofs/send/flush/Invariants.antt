use Rattle.std.proofs.Common.{◌≡◌, length}
use Rattle.futures.specs.Task.{Keeps}
use Rattle.poll_steps.specs.Steps.{Sent}
use Rattle.poll_steps.proofs.send.flush.Given as goal

-- a front is sent, and nothing failed
abbrev pub invariant-bytes : goal.invariant-bytes
invariant-bytes g l = record {
  sent : Sent l.fn.unsent.items (g.K.PollSink.told l.fn.sink) l.unsent.items (g.K.PollSink.told l.sink);
  counts : g.K.PollSink.counts l.sink ≡ g.K.PollSink.counts l.fn.sink;
  kept : Keeps l.fn.context l.context;
}

abbrev pub decreases-bytes : goal.decreases-bytes
decreases-bytes g l = length l.unsent.items
