use Rattle.portal_steps.specs.Story.{state_now}
use Rattle.trace_items.specs.Awaited.{change_of}
use Rattle.history_trace.proofs.FreshFiles.{fresh-next}
use Rattle.history_trace.proofs.replay.tell_again.Goals as goal

pub come-requires : goal.come-requires
come-requires c =
    let s = state_now c.args.portal.now.story in
    let e = c.args.entry.now in
    let awaits = c.in_ok-awaited.ensures s c.lent.ensures c.known.ensures.valid c.requires.lawful in
    fresh-next s (state_now c.ask_again.new.portal.story) e (change_of c.in_ok-awaited.awaited.change)
    c.args.files.now c.in-Ok.done c.requires.files c.in-Ok.ensures.goes.state
    c.known.ensures.valid c.known-in-Ok.ensures.valid awaits.files c.in-Ok.ensures.done
