use Rattle.std.proofs.Common.{◌≡◌, ◌+◌, sym, ap, ◌∙◌, refl}
use Rattle.portal_load.specs.Draws.{next, number_of}
use Rattle.portal_load.proofs.RequestLines.{first_lines, next_line, number_more}
use Rattle.portal_load.proofs.load.generate.Goals as goal

pub loop-before-init : goal.loop-before-init
loop-before-init c = record { number = refl; lines = first_lines c.in_ok-lines.lines c.in_ok-lines.ensures }

pub loop-before-preserved : goal.loop-before-preserved
loop-before-preserved c =
    let number : c.next-number.result ≡ number_of (c.loop-before.before + 1) = c.next-number.ensures ∙ (ap next c.loop-before.invariant.number ∙ sym (number_more c.loop-before.before)) in
    record { number = number; lines = next_line c.loop-before.before c.next-number.result c.loop-before.lines c.push.new.self c.in_ok-line_of.field-0 c.draw_of-draw.result number c.draw_of-draw.ensures c.in_ok-line_of.ensures c.loop-before.invariant.lines c.in_ok-push.ensures.ok }
