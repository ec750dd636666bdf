use Rattle.std.proofs.Common.{ap, sym, ◌∙◌}
use Rattle.std.proofs.lemmas.Result.{IfOk-weaker}
use Rattle.portal_model.specs.declared.temporary.Temp.{Temp}
use Rattle.portal_model.specs.Create.{add_temp, next_temp_node}
use Rattle.node_looks.specs.Done.{room_in}
use Rattle.file_ops.specs.Creates.{temp_added}
use Rattle.file_ops.specs.SeatTemps.{seat_temps}
use Rattle.file_ops.specs.Tries.{done_of_ended}
use Rattle.file_ops.proofs.Savings.{saving-along}
use Rattle.file_ops.proofs.beside.make_temp.Goals as goal

pub make_fresh-requires-clause-next : goal.make_fresh-requires-clause-next
make_fresh-requires-clause-next g c = c.in_ok-file.ensures ∙ ap (λ (t : Temp). t.file) c.in_ok-temp.ensures

pub returns-clause-ok : goal.returns-clause-ok
returns-clause-ok g c =
    let r = c.args.call.now.request.now in
    let room = room_in c.args.handles.now c.args.call.now.seat in
    IfOk-weaker c.make_fresh.result _ _
    (λ ended h has e.
    saving-along (temp_added r c.args.name.now c.args.flags room c.args.folder.now (seat_temps c.args.temps.now has)) (add_temp r c.args.flags room (next_temp_node (seat_temps c.args.temps.now has) c.args.folder.now.view) c.args.folder.now.document c.in_ok-temp.temp)
    c.args.call.now.seat c.args.handles.now c.args.temps.now _ (done_of_ended ended) c.make_fresh.new.handles c.make_fresh.new.temps _
    (ap (add_temp r c.args.flags room (next_temp_node (seat_temps c.args.temps.now has) c.args.folder.now.view) c.args.folder.now.document) (sym c.in_ok-temp.ensures)) (h has e))
    c.make_fresh.ensures.ok
