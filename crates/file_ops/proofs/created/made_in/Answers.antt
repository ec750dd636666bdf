use Rattle.std.proofs.lemmas.Result.{IfOk-weaker}
use Rattle.portal_base.specs.Names.{is_same, name_of}
use Rattle.portal_model.specs.Create.{create_in, create_own}
use Rattle.portal_model.specs.Place.{FolderOf}
use Rattle.node_looks.specs.Done.{room_in}
use Rattle.file_ops.specs.Creates.{other_made}
use Rattle.file_ops.specs.SeatTemps.{seat_temps}
use Rattle.file_ops.specs.Tries.{done_of_tried}
use Rattle.file_ops.proofs.Savings.{kept-same, saving-along, saving-none}
use Rattle.file_ops.proofs.SparedWalks.{own-leaves}
use Rattle.file_ops.proofs.Tries.{picked, passed}
use Rattle.file_ops.proofs.created.made_in.Goals as goal

pub returns-then-is_name_of-clause-ok : goal.returns-then-is_name_of-clause-ok
returns-then-is_name_of-clause-ok g c = λ namings.
    let r = c.args.call.now.request.now in
    let room = room_in c.args.handles.now c.args.call.now.seat in
    let f = c.args.folder.now in
    let own = create_own r c.args.flags room f.view f.document f.may_write in
    IfOk-weaker c.make_own.result _ _
    (λ tried o has e.
    saving-along (create_in r c.args.name.now c.args.flags room namings (seat_temps c.args.temps.now has) (FolderOf f.view f.document f.may_write)) own c.args.call.now.seat c.args.handles.now c.args.temps.now _ (done_of_tried tried) c.make_own.new.handles c.args.temps.now _
    (picked (is_same c.args.name.now (name_of f.document.path)) c.is_name_of.result own (other_made r c.args.name.now c.args.flags room f (seat_temps c.args.temps.now has)) c.is_name_of.ensures c.if-is_name_of.true)
    (saving-none own c.args.call.now.seat c.args.handles.now c.args.temps.now _ (done_of_tried tried) c.make_own.new.handles c.args.temps.now _ (own-leaves r c.args.flags room f.view f.document f.may_write) (kept-same c.args.temps.now) o))
    c.make_own.ensures.ok

pub returns-else-is_name_of-clause-ok : goal.returns-else-is_name_of-clause-ok
returns-else-is_name_of-clause-ok g c = λ namings.
    let r = c.args.call.now.request.now in
    let room = room_in c.args.handles.now c.args.call.now.seat in
    let f = c.args.folder.now in
    IfOk-weaker c.make_other.result _ _
    (λ tried h has e.
    saving-along (create_in r c.args.name.now c.args.flags room namings (seat_temps c.args.temps.now has) (FolderOf f.view f.document f.may_write)) (other_made r c.args.name.now c.args.flags room f (seat_temps c.args.temps.now has))
    c.args.call.now.seat c.args.handles.now c.args.temps.now _ (done_of_tried tried) c.make_other.new.handles c.make_other.new.temps _
    (passed (is_same c.args.name.now (name_of f.document.path)) c.is_name_of.result (create_own r c.args.flags room f.view f.document f.may_write) (other_made r c.args.name.now c.args.flags room f (seat_temps c.args.temps.now has)) c.is_name_of.ensures c.if-is_name_of.false)
    (h has e))
    c.make_other.ensures.ok
