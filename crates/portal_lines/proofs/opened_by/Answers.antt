use Rattle.script_form.proofs.FirstFiles.{first_alone, none_beside}
use Rattle.portal_lines.proofs.opened_by.Goals as goal

pub start-requires-clause-first : goal.start-requires-clause-first
start-requires-clause-first c =
    let tree = c.in_ok-tree.field-0.tree in
    let is = c.in_ok-tree.ensures.tree in
    let lines = c.in_ok-read.read.lines in
    record { none_hidden = none_beside lines tree is; first = first_alone lines tree is }
