use Rattle.portal_steps.specs.Story.{state_now}
use Rattle.history_trace.proofs.Going.{told-now}
use Rattle.history_trace.proofs.LentLists.{shows}
use Rattle.history_trace.proofs.replay.lent.Goals as goal

pub returns : goal.returns
returns c = shows _ (state_now c.args.portal.now.story) c.book.ensures c.connections.ensures c.handles.ensures c.namings.ensures c.temps.ensures c.requires.covered (told-now c.args.portal.now.story c.requires.told) c.requires.files
