use Rattle.portal_model.specs.NodeVerdict.{spot}
use Rattle.portal_model.specs.Open.{open_file}
use Rattle.node_looks.specs.Done.{room_in}
use Rattle.file_ops.proofs.Openings.{behind-file}
use Rattle.file_ops.proofs.opening.open_looked.Goals as goal

pub returns-in-Is-File-clause-ok : goal.returns-in-Is-File-clause-ok
returns-in-Is-File-clause-ok g c =
    behind-file (open_file c.args.call.now.request.now c.args.flags (room_in c.args.handles.now c.args.call.now.seat) (spot c.args.seen.document.now c.args.path.now c.args.seen.may_write))
    c.args.look c.in-Is-File.field-0 c.in-Is-File.generation c.in-Is-File.field-0-1 c.in-Is-File.field-0-2 c.args.call.now.seat c.args.handles.now _ c.open_shown.result _ _
    c.in-Is-File.is (rw c.in-Is-File.is at c.in-Is-File.field-0-is) (c.open_shown.ensures.ok c.in-Is-File.field-0-1 c.in-Is-File.field-0-2)
