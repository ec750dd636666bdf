use Rattle.std.proofs.Common.{◌++◌, ◌∷◌, [], List, ℕ, sym, ap, ◌∙◌}
use Rattle.script_lines.specs.Lines.{line_text}
use Rattle.script_lines.specs.declared.script.ScriptLine.{ScriptLine}
use Rattle.script_form.proofs.ScriptFacts.{text_empty}
use Rattle.script_form.proofs.WrittenFacts.{text_more}
use Rattle.script_form.proofs.writer.write_script.Goals as goal

pub loop-line-init : goal.loop-line-init
loop-line-init c = c.new-text.ensures ∙ sym text_empty

pub loop-line-preserved : goal.loop-line-preserved
loop-line-preserved c =
    c.in_ok-push.ensures.ok ∙ ap (λ (t : List ℕ). t ++ (10 ∷ [])) (c.in_ok-write_line.ensures ∙ ap (λ (line : ScriptLine). c.loop-line.text ++ line_text line) c.line-item.is)
    ∙ text_more c.as_slice-line-items.result.now c.loop-line.line-index c.line-item.result c.loop-line.text c.loop-line-test.true c.loop-line.invariant
