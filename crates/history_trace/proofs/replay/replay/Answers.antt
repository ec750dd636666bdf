use Rattle.std.proofs.Common.{subst}
use Rattle.named_paths.specs.OpenNumbers.{Cover}
use Rattle.portal_model.specs.State.{State}
use Rattle.portal_steps.specs.Story.{state_now}
use Rattle.history_trace.proofs.replay.replay.Goals as goal

pub returns-clause-covered : goal.returns-clause-covered
returns-clause-covered c =
    let s = state_now c.args.portal.now.story in
    let goes = c.in_ok-tell_again.ensures.goes.state in
    subst (λ (t : State). Cover c.follow_entry.new.numbers t.handles) goes
    (c.in_ok-follow_entry.ensures s c.requires.covered goes)
