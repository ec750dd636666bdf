use Rattle.std.proofs.Common.{◌≡◌, ◌∙◌, ◌++◌, ℕ, List, [], ◌∷◌, ap, subst}
use Rattle.portal_base.specs.Outside.{onto}
use Rattle.session.specs.Sessions.{ending}
use Rattle.script_lines.specs.declared.script.ScriptLine.TheVariants.{Close}
use Rattle.script_replay.specs.Steps.{WritesShort, scene}
use Rattle.script_replay.specs.Texts.{end_line}
use Rattle.script_replay.proofs.RunLine.{breaks_written, close_part, close_passes, close_runs, if_err, on_ok}
use Rattle.script_replay.proofs.line.close.Goals as goal

pub returns-in_ok-all-in-Some-clause-ok : goal.returns-in_ok-all-in-Some-clause-ok
returns-in_ok-all-in-Some-clause-ok g c =
    let said : c.as_slice.result.now ≡ end_line c.args.seat (ending c.in-Some.session.fed c.in-Some.session.rest) ∷ [] = c.as_slice.ensures ∙ (c.in_ok-all-in-Some.ensures.ok ∙ ap (λ (z : List (List ℕ)). z ++ end_line c.args.seat (ending c.in-Some.session.fed c.in-Some.session.rest) ∷ []) c.new.ensures) in
    on_ok _ _ _ (λ wrote. close_runs c.args.portal.now c.leave.new.portal c.args.connections.now c.args.seat c.in-Some.session c.in-Some.ensures.taken c.requires.may.agrees c.take.new.self _ _ c.leave.ensures.opening c.leave.ensures.left c.take.ensures.left (wrote ∙ ap (onto _) said))
    c.write_lines.ensures.ok

pub returns-in_ok-all-in-Some-clause-err : goal.returns-in_ok-all-in-Some-clause-err
returns-in_ok-all-in-Some-clause-err g c =
    let said : c.as_slice.result.now ≡ end_line c.args.seat (ending c.in-Some.session.fed c.in-Some.session.rest) ∷ [] = c.as_slice.ensures ∙ (c.in_ok-all-in-Some.ensures.ok ∙ ap (λ (z : List (List ℕ)). z ++ end_line c.args.seat (ending c.in-Some.session.fed c.in-Some.session.rest) ∷ []) c.new.ensures) in
    if_err _ _ _ (λ error broke. breaks_written (scene c.args.portal.now c.args.connections.now) (Close c.args.seat) (end_line c.args.seat (ending c.in-Some.session.fed c.in-Some.session.rest) ∷ []) (g.K.Sink.told c.args.sink.now) (g.K.Sink.told c.write_lines.new.sink) (g.K.Sink.faults c.args.sink.now) (g.K.Sink.faults c.write_lines.new.sink)
    (λ ws short wrote. close_part c.args.portal.now c.leave.new.portal c.args.connections.now c.args.seat c.in-Some.session c.in-Some.ensures.taken c.requires.may.agrees _ _ ws short wrote) error (subst (λ (z : List (List ℕ)). WritesShort z (g.K.Sink.told c.args.sink.now) (g.K.Sink.faults c.args.sink.now) (g.K.Sink.told c.write_lines.new.sink) (g.K.Sink.faults c.write_lines.new.sink) error) said broke))
    c.write_lines.ensures.err

pub returns-in-None-clause-ok : goal.returns-in-None-clause-ok
returns-in-None-clause-ok g c = close_passes c.args.portal.now c.args.connections.now c.take.new.self c.args.seat _ c.in-None.ensures.taken c.take.ensures.left
