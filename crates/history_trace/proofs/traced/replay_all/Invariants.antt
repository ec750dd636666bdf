use Rattle.std.proofs.Common.{take}
use Rattle.history_trace.specs.Replayed.{IsReplayed}
use Rattle.history_trace.proofs.traced.replay_all.Given as goal

abbrev pub invariant-loop-place : goal.invariant-loop-place
invariant-loop-place l = IsReplayed l.app l.opening (take l.place l.history.entries) l.portal.story l.numbers l.files l.told
