use Rattle.std.proofs.Common.{◌≡◌, ap, false, is_some, not, rules, true, refl, ◌∙◌}
use Rattle.portal_model.specs.Errno.{eacces, eexist, emfile}
use Rattle.portal_model.specs.SeatNames.{found_temp}
use Rattle.node_looks.specs.Done.{room_in}
use Rattle.node_looks.proofs.DoneLemmas.{handles-stay}
use Rattle.file_ops.specs.Creates.{other_made}
use Rattle.file_ops.specs.SeatTemps.{seat_temps}
use Rattle.file_ops.specs.Tries.{done_of_tried}
use Rattle.file_ops.proofs.MadeBeside.{full-either, full-first, other-denied, other-exists, other-full, other-made, told-some}
use Rattle.file_ops.proofs.Savings.{kept-same, refused-done, refused-with}
use Rattle.file_ops.proofs.Tries.{on-err}
use Rattle.file_ops.proofs.beside.make_other.Goals as goal

pub returns-then-is_denied-clause-ok : goal.returns-then-is_denied-clause-ok
returns-then-is_denied-clause-ok g c =
    let f = c.args.folder.now in
    let room = room_in c.args.handles.now c.args.call.now.seat in
    refused-with (other_made c.args.call.now.request.now c.args.name.now c.args.flags room f) eacces c.args.call.now.seat c.args.handles.now c.args.handles.now c.args.temps.now c.args.temps.now _ (done_of_tried c.unlooked.result)
    (λ has e. other-denied c.args.call.now.request.now c.args.name.now c.args.flags f room c.is_denied.result c.is_denied.ensures (seat_temps c.args.temps.now has) c.if-is_denied.true)
    (refused-done eacces _ c.unlooked.result c.refused.result refl c.unlooked.ensures c.refused.ensures.same) (handles-stay c.args.call.now.seat c.args.handles.now) (kept-same c.args.temps.now)

pub returns-then-is_some-clause-ok : goal.returns-then-is_some-clause-ok
returns-then-is_some-clause-ok g c =
    let f = c.args.folder.now in
    let room = room_in c.args.handles.now c.args.call.now.seat in
    let here : is_some c.own_called.result ≡ true = search rules in
    refused-with (other_made c.args.call.now.request.now c.args.name.now c.args.flags room f) eexist c.args.call.now.seat c.args.handles.now c.args.handles.now c.args.temps.now c.args.temps.now _ (done_of_tried c.unlooked-then-is_some.result)
    (λ has e. other-exists c.args.call.now.request.now c.args.name.now c.args.flags f room c.is_denied.result c.is_denied.ensures c.if-is_denied.false (seat_temps c.args.temps.now has)
    (told-some c.own_called.result (found_temp has.temps f.view f.document.id c.args.name.now) (c.own_called.ensures.found has e) ∙ here))
    (refused-done eexist _ c.unlooked-then-is_some.result c.refused-then-is_some.result refl c.unlooked-then-is_some.ensures c.refused-then-is_some.ensures.same) (handles-stay c.args.call.now.seat c.args.handles.now) (kept-same c.args.temps.now)

pub returns-then-not-branch-clause-ok : goal.returns-then-not-branch-clause-ok
returns-then-not-branch-clause-ok g c =
    let f = c.args.folder.now in
    let room = room_in c.args.handles.now c.args.call.now.seat in
    let none : is_some c.own_called.result ≡ false = search rules in
    let full : room.full ≡ true = c.in_ok-take_room.ensures.full ∙ ap not c.if-not-branch.true in
    refused-with (other_made c.args.call.now.request.now c.args.name.now c.args.flags room f) emfile c.args.call.now.seat c.args.handles.now c.take_room.new.handles c.args.temps.now c.args.temps.now _ (done_of_tried c.unlooked-then-not-branch.result)
    (λ has e. other-full c.args.call.now.request.now c.args.name.now c.args.flags f room c.is_denied.result c.is_denied.ensures c.if-is_denied.false (seat_temps c.args.temps.now has) true
    (told-some c.own_called.result (found_temp has.temps f.view f.document.id c.args.name.now) (c.own_called.ensures.found has e) ∙ none) (full-first room.full _ full))
    (refused-done emfile _ c.unlooked-then-not-branch.result c.refused-then-not-branch.result refl c.unlooked-then-not-branch.ensures c.refused-then-not-branch.ensures.same) c.take_room.ensures.kept (kept-same c.args.temps.now)

pub returns-then-not-branch-2-clause-ok : goal.returns-then-not-branch-2-clause-ok
returns-then-not-branch-2-clause-ok g c =
    let f = c.args.folder.now in
    let room = room_in c.args.handles.now c.args.call.now.seat in
    let none : is_some c.own_called.result ≡ false = search rules in
    let free : room.full ≡ false = c.in_ok-take_room.ensures.full ∙ ap not c.if-not-branch.false in
    refused-with (other_made c.args.call.now.request.now c.args.name.now c.args.flags room f) emfile c.args.call.now.seat c.args.handles.now c.take_room.new.handles c.args.temps.now c.take_temp.new.temps _ (done_of_tried c.unlooked-then-not-branch-2.result)
    (λ has e. other-full c.args.call.now.request.now c.args.name.now c.args.flags f room c.is_denied.result c.is_denied.ensures c.if-is_denied.false (seat_temps c.args.temps.now has) true
    (told-some c.own_called.result (found_temp has.temps f.view f.document.id c.args.name.now) (c.own_called.ensures.found has e) ∙ none)
    (full-either room.full _ free (c.in_ok-take_temp.ensures.full has e ∙ ap not c.if-not-branch-2.true)))
    (refused-done emfile _ c.unlooked-then-not-branch-2.result c.refused-then-not-branch-2.result refl c.unlooked-then-not-branch-2.ensures c.refused-then-not-branch-2.ensures.same) c.take_room.ensures.kept c.take_temp.ensures.kept

pub returns-clause-ok : goal.returns-clause-ok
returns-clause-ok g c =
    let f = c.args.folder.now in
    let none : is_some c.own_called.result ≡ false = search rules in
    rw c.unlooked-2.ensures
    (other-made c.args.call.now.request.now c.args.name.now c.args.flags f c.is_denied.result c.args.call.now.seat c.args.handles.now c.take_room.new.handles c.args.temps.now c.take_temp.new.temps _ c.in_ok-ended.ended c.make_temp.new.handles c.make_temp.new.temps _
    c.is_denied.ensures c.if-is_denied.false (λ has e. told-some c.own_called.result (found_temp has.temps f.view f.document.id c.args.name.now) (c.own_called.ensures.found has e) ∙ none) (c.in_ok-take_room.ensures.full ∙ ap not c.if-not-branch.false)
    (λ has e. c.in_ok-take_temp.ensures.full has e ∙ ap not c.if-not-branch-2.false) c.take_room.ensures.kept c.take_temp.ensures.kept c.in_ok-ended.ensures.ok)

pub returns-in_err-ended-clause-handles_err : goal.returns-in_err-ended-clause-handles_err
returns-in_err-ended-clause-handles_err g c = on-err c.from_residual-in_err-ended.result _ (rw c.in_err-ended.ensures.handles_err c.take_room.ensures.kept)

pub returns-in_err-ended-clause-temps_err : goal.returns-in_err-ended-clause-temps_err
returns-in_err-ended-clause-temps_err g c = on-err c.from_residual-in_err-ended.result _ (rw c.in_err-ended.ensures.temps_err c.take_temp.ensures.kept)
