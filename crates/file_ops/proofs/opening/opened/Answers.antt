use Rattle.std.proofs.Common.{Option, Some, ap, subst, sym, ◌∙◌}
use Rattle.std.specs.Option.{option_map}
use Rattle.std.proofs.lemmas.Result.{IfOk-weaker}
use Rattle.portal_model.specs.Errno.{einval}
use Rattle.portal_model.specs.NodeVerdict.{NodeVerdict, by_place}
use Rattle.portal_model.specs.Open.{has_no_mode, open_file, open_folder}
use Rattle.portal_model.specs.Place.{Sight}
use Rattle.portal_model.specs.Walk.{Walk}
use Rattle.node_looks.specs.Done.{room_in}
use Rattle.node_looks.specs.Sights.{node_seen, sight_of}
use Rattle.node_looks.specs.declared.sight.SeenPlace.{SeenPlace}
use Rattle.file_ops.specs.Creates.{Opening}
use Rattle.file_ops.specs.Tries.{done_of_tried}
use Rattle.file_ops.proofs.Tries.{if-right}
use Rattle.file_ops.proofs.opening.opened.Goals as goal

pub returns-in-Some-Below-clause-ok : goal.returns-in-Some-Below-clause-ok
returns-in-Some-Below-clause-ok g c =
    let r = c.args.call.now.request.now in
    let who = c.args.call.now.who.now in
    let room = room_in c.args.handles.now c.args.call.now.seat in
    let walk = λ (o : Option Sight). by_place o (open_file r c.args.flags room) open_folder in
    IfOk-weaker c.open_below.result _ _
    (λ tried o s l.
    subst (λ (w : Walk NodeVerdict). Opening w c.args.call.now.seat c.args.handles.now (g.T.HostTree.is c.args.tree.now) (done_of_tried tried) c.open_below.new.handles (g.T.HostTree.is c.open_below.new.tree))
    (sym (if-right (has_no_mode c.args.flags) c.has_no_mode.result einval (walk (node_seen s who c.args.own r.node)) c.has_no_mode.ensures c.if-has_no_mode.false
    ∙ ap walk (c.seen_place.ensures.sight s l ∙ (ap (option_map (sight_of c.args.book.now who)) c.in-Some-Below.is ∙ ap (λ (p : SeenPlace). Some (sight_of c.args.book.now who p)) c.in-Some-Below.field-0-is)))) o)
    (c.open_below.ensures.ok c.in-Some-Below.field-0-0)
