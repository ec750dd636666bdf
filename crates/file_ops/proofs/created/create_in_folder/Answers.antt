use Rattle.std.proofs.Common.{Some, subst, sym, ◌∙◌}
use Rattle.portal_model.specs.Create.{create, create_in}
use Rattle.portal_model.specs.Errno.{einval, enametoolong}
use Rattle.portal_model.specs.NodeVerdict.{errs_if, is_too_long}
use Rattle.portal_model.specs.Open.{has_no_mode}
use Rattle.portal_model.specs.Place.{FolderOf}
use Rattle.node_looks.specs.Done.{room_in}
use Rattle.node_looks.specs.declared.served.NodeDone.{NodeDone}
use Rattle.node_looks.proofs.DoneLemmas.{handles-stay}
use Rattle.file_ops.specs.Creates.{Saving, folder_sight}
use Rattle.file_ops.specs.SeatTemps.{seat_temps}
use Rattle.file_ops.proofs.Savings.{kept-same, refused-done, refused-with, saving-along}
use Rattle.file_ops.proofs.Tries.{if-right, if-wrong}
use Rattle.file_ops.proofs.created.create_in_folder.Goals as goal

pub returns-then-has_no_mode-clause-ok : goal.returns-then-has_no_mode-clause-ok
returns-then-has_no_mode-clause-ok g c = λ namings.
    let r = c.args.call.now.request.now in
    let room = room_in c.args.handles.now c.args.call.now.seat in
    let f = c.args.folder.now in
    refused-with (create r c.args.name.now c.args.flags (Some (folder_sight f)) room namings) einval c.args.call.now.seat c.args.handles.now c.args.handles.now c.args.temps.now c.args.temps.now _ c.done.result
    (λ has e. if-wrong (has_no_mode c.args.flags) c.has_no_mode.result einval (errs_if (is_too_long c.args.name.now) enametoolong (create_in r c.args.name.now c.args.flags room namings (seat_temps c.args.temps.now has) (FolderOf f.view f.document f.may_write))) c.has_no_mode.ensures c.if-has_no_mode.true)
    (refused-done einval c.done.result c.unlooked.result c.refused.result c.done.ensures c.unlooked.ensures c.refused.ensures.same) (handles-stay c.args.call.now.seat c.args.handles.now) (kept-same c.args.temps.now)

pub returns-then-is_too_long-clause-ok : goal.returns-then-is_too_long-clause-ok
returns-then-is_too_long-clause-ok g c = λ namings.
    let r = c.args.call.now.request.now in
    let room = room_in c.args.handles.now c.args.call.now.seat in
    let f = c.args.folder.now in
    refused-with (create r c.args.name.now c.args.flags (Some (folder_sight f)) room namings) enametoolong c.args.call.now.seat c.args.handles.now c.args.handles.now c.args.temps.now c.args.temps.now _ c.done-then-is_too_long.result
    (λ has e.
    let there = create_in r c.args.name.now c.args.flags room namings (seat_temps c.args.temps.now has) (FolderOf f.view f.document f.may_write) in
    if-right (has_no_mode c.args.flags) c.has_no_mode.result einval (errs_if (is_too_long c.args.name.now) enametoolong there) c.has_no_mode.ensures c.if-has_no_mode.false
    ∙ if-wrong (is_too_long c.args.name.now) c.is_too_long.result enametoolong there c.is_too_long.ensures c.if-is_too_long.true)
    (refused-done enametoolong c.done-then-is_too_long.result c.unlooked-then-is_too_long.result c.refused-then-is_too_long.result c.done-then-is_too_long.ensures c.unlooked-then-is_too_long.ensures c.refused-then-is_too_long.ensures.same)
    (handles-stay c.args.call.now.seat c.args.handles.now) (kept-same c.args.temps.now)

pub returns-clause-ok : goal.returns-clause-ok
returns-clause-ok g c = λ namings has e.
    let r = c.args.call.now.request.now in
    let room = room_in c.args.handles.now c.args.call.now.seat in
    let f = c.args.folder.now in
    let there = create_in r c.args.name.now c.args.flags room namings (seat_temps c.args.temps.now has) (FolderOf f.view f.document f.may_write) in
    subst (λ (d : NodeDone). Saving (create r c.args.name.now c.args.flags (Some (folder_sight f)) room namings (seat_temps c.args.temps.now has)) c.args.call.now.seat c.args.handles.now c.args.temps.now (g.T.HostTree.is c.args.tree.now) d c.made_in.new.handles c.made_in.new.temps (g.T.HostTree.is c.made_in.new.tree)) (sym c.done-2.ensures)
    (saving-along _ there c.args.call.now.seat c.args.handles.now c.args.temps.now _ _ c.made_in.new.handles c.made_in.new.temps _
    (if-right (has_no_mode c.args.flags) c.has_no_mode.result einval (errs_if (is_too_long c.args.name.now) enametoolong there) c.has_no_mode.ensures c.if-has_no_mode.false
    ∙ if-right (is_too_long c.args.name.now) c.is_too_long.result enametoolong there c.is_too_long.ensures c.if-is_too_long.false)
    (c.in_ok-tried.ensures.ok namings has e))
