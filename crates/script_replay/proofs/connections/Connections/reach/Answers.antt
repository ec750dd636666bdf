use Rattle.std.proofs.Common.{ap, ◌∙◌}
use Rattle.script_replay.specs.Scenes.{sessions_of}
use Rattle.script_replay.proofs.SessionTable.{grown}
use Rattle.script_replay.proofs.connections.Connections.reach.Goals as goal

pub loop-self-preserved : goal.loop-self-preserved
loop-self-preserved c = ap sessions_of c.in_ok-push.ensures.items ∙ (grown c.loop-self.self-inside.sessions.items ∙ c.loop-self.invariant)
