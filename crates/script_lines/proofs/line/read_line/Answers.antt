use Rattle.std.proofs.Common.{sym, ◌∙◌, ap}
use Rattle.portal_base.specs.Names.{is_same}
use Rattle.script_lines.proofs.LineFacts.{no_line, other_line, none_of_nine}
use Rattle.script_lines.proofs.line.read_line.Goals as goal

pub returns-in_default : goal.returns-in_default
returns-in_default c = λ line rules same. no_line c.args.line.now c.in_default.ensures line same

pub returns : goal.returns
returns c = λ line rules same. other_line c.args.line.now c.in-Some.command.now c.in-Some.rest.now c.in-Some.ensures
    (none_of_nine _ _ _ _ _ _ _ _ _
    (ap (is_same c.in-Some.command.now) (sym c.as_slice.ensures) ∙ sym c.if-eq.ensures)
    (ap (is_same c.in-Some.command.now) (sym c.as_slice-2.ensures) ∙ sym c.if-eq-2.ensures)
    (ap (is_same c.in-Some.command.now) (sym c.as_slice-3.ensures) ∙ sym c.if-eq-3.ensures)
    (ap (is_same c.in-Some.command.now) (sym c.as_slice-4.ensures) ∙ sym c.if-eq-4.ensures)
    (ap (is_same c.in-Some.command.now) (sym c.as_slice-5.ensures) ∙ sym c.if-eq-5.ensures)
    (ap (is_same c.in-Some.command.now) (sym c.as_slice-6.ensures) ∙ sym c.if-eq-6.ensures)
    (ap (is_same c.in-Some.command.now) (sym c.as_slice-7.ensures) ∙ sym c.if-eq-7.ensures)
    (ap (is_same c.in-Some.command.now) (sym c.as_slice-8.ensures) ∙ sym c.if-eq-8.ensures)
    (ap (is_same c.in-Some.command.now) (sym c.as_slice-9.ensures) ∙ sym c.if-eq-9.ensures))
    line same
