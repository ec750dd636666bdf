use Rattle.std.proofs.Common.{◌∙◌, ap, subst, sym, length, ◌+◌, ◌*◌, ◌++◌, ◌≤◌, ℕ, List}
use Rattle.portal_steps.specs.Story.{limit_of}
use Rattle.portal_model.specs.History.{cost}
use Rattle.portal_base.specs.Outside.{onto}
use Rattle.session.specs.Standings.{longest}
use Rattle.script_replay.specs.Steps.{WritesShort}
use Rattle.script_replay.proofs.RunLine.{answered_at, data_passes, data_room, data_space, if_err, last_breaks, last_runs, on_breaks, on_ok, on_runs}
use Rattle.script_replay.proofs.line.data.Goals as goal

pub returns-in-None-clause-ok : goal.returns-in-None-clause-ok
returns-in-None-clause-ok g c = data_passes c.args.portal.now c.args.connections.now c.take.new.self c.args.seat c.args.bytes.now _ c.in-None.ensures.taken c.take.ensures.left

pub hear-requires-clause-space : goal.hear-requires-clause-space
hear-requires-clause-space g c =
    subst (λ (z : List ℕ). c.in-Some.session.before + length c.in-Some.session.rest + length z ≤ longest) (sym c.as_slice.ensures)
    (data_space c.args.portal.now c.args.connections.now c.args.seat c.args.bytes.now c.in-Some.session c.requires.may c.in-Some.ensures.taken)

pub hear-requires-clause-room : goal.hear-requires-clause-room
hear-requires-clause-room g c =
    subst (λ (z : List ℕ). cost c.args.portal.now.story.history + 8 * length (c.in-Some.session.rest ++ z) ≤ limit_of c.args.portal.now.story) (sym c.as_slice.ensures)
    (data_room c.args.portal.now c.args.connections.now c.args.seat c.args.bytes.now c.in-Some.session c.requires.may c.in-Some.ensures.taken)

pub returns-then-heard-clause-ok : goal.returns-then-heard-clause-ok
returns-then-heard-clause-ok g c =
    on_ok _ _ _ (λ wrote. last_runs c.args.portal.now c.hear.new.portal c.args.connections.now c.args.seat c.in-Some.session c.hear.new.session c.args.bytes.now c.in_ok-heard.heard.written.pieces c.as_slice-2.result.now c.in_ok-lines.lines c.in_ok-heard.heard.is_over
    (answered_at _ _ _ _ _ _ c.as_slice.result.now _ _ _ c.in-Some.ensures.taken c.as_slice.ensures c.in_ok-heard.ensures.opening c.in_ok-heard.ensures.ok) (c.as_slice-2.ensures ∙ c.pieces.ensures) c.in_ok-lines.ensures.ok
    c.if-heard.true c.in_ok-all.all c.in_ok-all.ensures.ok c.leave.new.portal c.take.new.self _ _ c.leave.ensures.opening c.leave.ensures.left c.take.ensures.left (wrote ∙ ap (onto _) c.as_slice-then-heard.ensures))
    c.write_lines.ensures.ok

pub returns-then-heard-clause-err : goal.returns-then-heard-clause-err
returns-then-heard-clause-err g c =
    if_err _ _ _ (λ error broke. last_breaks c.args.portal.now c.hear.new.portal c.args.connections.now c.args.seat c.in-Some.session c.hear.new.session c.args.bytes.now c.in_ok-heard.heard.written.pieces c.as_slice-2.result.now c.in_ok-lines.lines c.in_ok-heard.heard.is_over
    (answered_at _ _ _ _ _ _ c.as_slice.result.now _ _ _ c.in-Some.ensures.taken c.as_slice.ensures c.in_ok-heard.ensures.opening c.in_ok-heard.ensures.ok) (c.as_slice-2.ensures ∙ c.pieces.ensures) c.in_ok-lines.ensures.ok
    c.if-heard.true c.in_ok-all.all c.in_ok-all.ensures.ok (g.K.Sink.told c.args.sink.now) (g.K.Sink.told c.write_lines.new.sink) (g.K.Sink.faults c.args.sink.now) (g.K.Sink.faults c.write_lines.new.sink) error (subst (λ (z : List (List ℕ)). WritesShort z (g.K.Sink.told c.args.sink.now) (g.K.Sink.faults c.args.sink.now) (g.K.Sink.told c.write_lines.new.sink) (g.K.Sink.faults c.write_lines.new.sink) error) c.as_slice-then-heard.ensures broke))
    c.write_lines.ensures.err

pub returns-clause-ok : goal.returns-clause-ok
returns-clause-ok g c =
    on_ok _ _ _ (λ wrote. on_runs c.args.portal.now c.hear.new.portal c.args.connections.now c.args.seat c.in-Some.session c.hear.new.session c.args.bytes.now c.in_ok-heard.heard.written.pieces c.as_slice-2.result.now c.in_ok-lines.lines c.in_ok-heard.heard.is_over
    (answered_at _ _ _ _ _ _ c.as_slice.result.now _ _ _ c.in-Some.ensures.taken c.as_slice.ensures c.in_ok-heard.ensures.opening c.in_ok-heard.ensures.ok) (c.as_slice-2.ensures ∙ c.pieces.ensures) c.in_ok-lines.ensures.ok
    c.if-heard.false c.take.new.self c.put.new.self _ _ c.take.ensures.left c.in_ok-put.ensures.ok (wrote ∙ ap (onto _) c.as_slice-3.ensures))
    c.write_lines-2.ensures.ok

pub returns-clause-err : goal.returns-clause-err
returns-clause-err g c =
    if_err _ _ _ (λ error broke. on_breaks c.args.portal.now c.hear.new.portal c.args.connections.now c.args.seat c.in-Some.session c.hear.new.session c.args.bytes.now c.in_ok-heard.heard.written.pieces c.as_slice-2.result.now c.in_ok-lines.lines c.in_ok-heard.heard.is_over
    (answered_at _ _ _ _ _ _ c.as_slice.result.now _ _ _ c.in-Some.ensures.taken c.as_slice.ensures c.in_ok-heard.ensures.opening c.in_ok-heard.ensures.ok) (c.as_slice-2.ensures ∙ c.pieces.ensures) c.in_ok-lines.ensures.ok
    c.if-heard.false (g.K.Sink.told c.args.sink.now) (g.K.Sink.told c.write_lines-2.new.sink) (g.K.Sink.faults c.args.sink.now) (g.K.Sink.faults c.write_lines-2.new.sink) error (subst (λ (z : List (List ℕ)). WritesShort z (g.K.Sink.told c.args.sink.now) (g.K.Sink.faults c.args.sink.now) (g.K.Sink.told c.write_lines-2.new.sink) (g.K.Sink.faults c.write_lines-2.new.sink) error) c.as_slice-3.ensures broke))
    c.write_lines-2.ensures.err
