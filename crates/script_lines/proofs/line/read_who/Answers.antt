use Rattle.std.proofs.Common.{sym, ◌∙◌}
use Rattle.script_lines.proofs.LineFacts.{no_caller}
use Rattle.portal_base.proofs.RefusedNames.{broken_app}
use Rattle.script_lines.proofs.WordFacts.{differ}
use Rattle.script_lines.proofs.line.read_who.Goals as goal

pub returns-in-Err-BadName : goal.returns-in-Err-BadName
returns-in-Err-BadName c =
    let refused = rw c.in-Err-BadName.field-0-is at c.in-Err-BadName.ensures.bad in
    no_caller c.args.word.now _ _ c.as_slice-2.ensures c.in-Some.ensures.cases.0 c.in-Some.ensures.cases.1
    (λ e. differ c.args.word.now c.as_slice.result.now (sym c.if-eq.ensures) (e ∙ sym c.as_slice.ensures))
    (broken_app c.in-Some.name.now c.in-Err-BadName.field-0-0 refused)
