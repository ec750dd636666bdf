use Rattle.portal_load.proofs.RequestLines.{all_ahead}
use Rattle.portal_load.proofs.ahead.lines_ahead.Goals as goal

pub returns : goal.returns
returns c = all_ahead c.in_ok-lines.lines c.in_ok-doc_lines.field-0 c.in_ok-open_lines.field-0 c.append.new.self c.append-2.new.self c.push.new.self
    c.in_ok-copied.field-0 c.in_ok-lines.ensures c.in_ok-doc_lines.ensures c.in_ok-open_lines.ensures c.in_ok-append.ensures.ok c.in_ok-append-2.ensures.ok c.in_ok-copied.ensures c.in_ok-push.ensures.ok
