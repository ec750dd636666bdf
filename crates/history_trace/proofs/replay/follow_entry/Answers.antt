use Rattle.std.proofs.Common.{ℕ, List, ap, subst, ◌∙◌}
use Rattle.named_paths.specs.OpenNumbers.{IsFollowed, last_opened}
use Rattle.named_paths.proofs.KeptNumbers.{ok-then}
use Rattle.named_paths.proofs.StillOpen.{silent-last, still-covered}
use Rattle.portal_model.specs.declared.state.Connection.{Connection}
use Rattle.portal_model.specs.State.{connection_of}
use Rattle.portal_steps.specs.Story.{state_now}
use Rattle.history_trace.proofs.LentLists.{open-in-table}
use Rattle.history_trace.proofs.replay.follow_entry.Goals as goal

pub returns : goal.returns
returns c =
    let t = state_now c.args.portal.now.story in
    let e = c.args.entry.now in
    let last = ap last_opened c.connection_of-connection.ensures
    ∙ (ap (λ (cs : List Connection). last_opened (connection_of cs e.seat)) c.connections.ensures
    ∙ silent-last t.connections e.seat) in
    ok-then c.follow.result _ _
    (λ f s covered goes. still-covered s t e c.args.numbers.now c.follow.new.numbers
    c.handles.result.now.seats goes covered
    (open-in-table t c.known.ensures.valid c.handles.result.now c.handles.ensures)
    (subst (λ (n : ℕ). IsFollowed e.seat n c.handles.result.now.seats c.args.numbers.now
    c.follow.new.numbers) last f))
    c.follow.ensures
