use Rattle.std.proofs.Common.{◌≡◌, ◌+◌, ◌-◌, length}
use Rattle.script_replay.specs.Scenes.{sessions_of}
use Rattle.script_replay.proofs.connections.Connections.reach.Given as goal

abbrev pub invariant-loop-self : goal.invariant-loop-self
invariant-loop-self l = sessions_of l.self-inside.sessions.items ≡ sessions_of l.fn.self

abbrev pub decreases-loop-self : goal.decreases-loop-self
decreases-loop-self l = l.index + 1 - length l.self-inside.sessions.items
