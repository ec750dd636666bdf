use Rattle.std.proofs.Common.{◌∙◌, ap, List, ℕ, take}
use Rattle.std.specs.Prelude.{fold}
use Rattle.portal_model.specs.Opening.{each, names_kept}
use Rattle.record_keeper.specs.Naming.{also_named}
use Rattle.script_form.specs.Opening.{document_in, applications_of}
use Rattle.script_lines.specs.declared.script.ScriptLine.{ScriptLine}
use Rattle.script_form.proofs.NamedInLines.{named_more}
use Rattle.script_form.proofs.opening.applications_in.Goals as goal

pub loop-line-preserved : goal.loop-line-preserved
loop-line-preserved c =
    let add : List (List ℕ) → ScriptLine → List (List ℕ) = λ named line. fold also_named named (each names_kept (document_in line)) in
    c.in_ok-add_names.ensures ∙ ap (λ (named : List (List ℕ)). add named c.line-item.result) c.loop-line.invariant
    ∙ ap (add (applications_of (take c.loop-line.line-index c.args.lines.now))) c.line-item.is
    ∙ named_more c.args.lines.now c.loop-line.line-index c.line-item.result c.loop-line-test.true
