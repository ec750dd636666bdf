use Rattle.portal_load.specs.Lines.{doc_line, doc_lines}
use Rattle.portal_load.proofs.Ranges.{made_all, made_more}
use Rattle.portal_load.proofs.ahead.doc_lines.Goals as goal

pub loop-number-preserved : goal.loop-number-preserved
loop-number-preserved c = made_more doc_line c.loop-number.number c.loop-number.lines c.push.new.self c.in_ok-doc_line.field-0 c.loop-number.invariant c.in_ok-doc_line.ensures c.in_ok-push.ensures.ok

pub returns : goal.returns
unfolding doc_lines
returns c = made_all doc_line c.loop-number.number 16 c.loop-number.lines c.loop-number.invariant c.loop-number-test.false c.loop-number.auto.number-end
