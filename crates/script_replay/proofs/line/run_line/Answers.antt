use Rattle.std.proofs.Common.{refl, subst, sym}
use Rattle.script_lines.specs.declared.script.ScriptLine.TheVariants.{File, Doc, Word}
use Rattle.script_replay.specs.Scenes.{ScriptPortal}
use Rattle.script_replay.specs.Steps.{Runs}
use Rattle.script_replay.proofs.RunLine.{clock_runs, opening_runs}
use Rattle.script_replay.proofs.line.run_line.Goals as goal

pub returns-in-File-clause-ok : goal.returns-in-File-clause-ok
returns-in-File-clause-ok g c = opening_runs c.args.portal.now c.args.connections.now c.args.line.now (File c.in-File.path c.in-File.content) _ c.in-File.is (λ a. (refl, refl, refl))

pub returns-in-Doc-clause-ok : goal.returns-in-Doc-clause-ok
returns-in-Doc-clause-ok g c = opening_runs c.args.portal.now c.args.connections.now c.args.line.now (Doc c.in-Doc.id c.in-Doc.reusable c.in-Doc.strict c.in-Doc.path c.in-Doc.grants) _ c.in-Doc.is (λ a. (refl, refl, refl))

pub returns-in-Now-clause-ok : goal.returns-in-Now-clause-ok
returns-in-Now-clause-ok g c =
    subst (λ (q : ScriptPortal). Runs c.args.portal.now c.args.connections.now q c.args.connections.now c.args.line.now (g.K.Sink.told c.args.sink.now) (g.K.Sink.told c.args.sink.now)) (sym c.set_clock.ensures)
    (clock_runs c.args.portal.now c.args.connections.now c.args.line.now c.in-Now.moment c.in-Now.moment _ c.in-Now.is refl)

pub returns-in-Entry-clause-ok : goal.returns-in-Entry-clause-ok
returns-in-Entry-clause-ok g c = opening_runs c.args.portal.now c.args.connections.now c.args.line.now _ _ c.in-Entry.is (λ a. (refl, refl, refl))

pub returns-in-Fail-clause-ok : goal.returns-in-Fail-clause-ok
returns-in-Fail-clause-ok g c = opening_runs c.args.portal.now c.args.connections.now c.args.line.now _ _ c.in-Fail.is (λ a. (refl, refl, refl))

pub returns-in-Word-clause-ok : goal.returns-in-Word-clause-ok
returns-in-Word-clause-ok g c = opening_runs c.args.portal.now c.args.connections.now c.args.line.now (Word c.in-Word.word) _ c.in-Word.is (λ a. (refl, refl, refl))
