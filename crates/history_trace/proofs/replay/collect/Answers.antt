use Rattle.std.proofs.Common.{ap}
use Rattle.app_world.specs.Touched.{is_done}
use Rattle.given_laws.proofs.FaultLaws.{faults-change-nothing}
use Rattle.portal_steps.specs.Story.{state_now}
use Rattle.history_trace.proofs.Going.{collected}
use Rattle.history_trace.proofs.replay.collect.Goals as goal

pub returns-clause-goes : goal.returns-clause-goes
returns-clause-goes c = collected c.args.portal.now c.ask.new.portal c.args.entry.now c.in_ok-reply.reply c.requires.lawful faults-change-nothing c.in_ok-reply.ensures c.requires.faulted c.known.ensures.valid

pub returns-clause-undone : goal.returns-clause-undone
returns-clause-undone c = ap is_done (faults-change-nothing.answer (state_now c.args.portal.now.story) c.args.entry.now c.requires.lawful c.requires.faulted)

pub returns-in_err-reply-clause-undone : goal.returns-in_err-reply-clause-undone
returns-in_err-reply-clause-undone c = ap is_done (faults-change-nothing.answer (state_now c.args.portal.now.story) c.args.entry.now c.requires.lawful c.requires.faulted)
