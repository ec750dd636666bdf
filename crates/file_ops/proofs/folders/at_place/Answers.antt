use Rattle.std.proofs.Common.{◌∙◌, Option, Some, ap, subst, sym}
use Rattle.std.specs.Option.{option_map}
use Rattle.std.proofs.lemmas.Result.{IfOk-weaker}
use Rattle.portal_model.specs.declared.request.NodeOp.TheVariants as NodeOp
use Rattle.portal_model.specs.OpenDir.{open_dir}
use Rattle.portal_model.specs.Place.{Sight, sight_of_place}
use Rattle.node_looks.specs.Done.{DoneBy, done_with, room_in}
use Rattle.node_looks.specs.Sights.{naming_by, sight_of, temp_by}
use Rattle.node_looks.specs.declared.served.NodeDone.{NodeDone}
use Rattle.node_looks.specs.declared.sight.SeenPlace.{SeenPlace}
use Rattle.file_ops.proofs.folders.at_place.Goals as goal

pub returns-in-Some-File-clause-ok : goal.returns-in-Some-File-clause-ok
returns-in-Some-File-clause-ok g c = λ has e s l.
    subst (λ (d : NodeDone). DoneBy (open_dir c.args.call.now.request.now (sight_of_place s c.args.call.now.who.now (naming_by c.args.own) (temp_by c.args.own) c.args.place) (room_in c.args.handles.now c.args.call.now.seat) has.temps) NodeOp.OpenDir c.args.call.now.seat c.args.handles.now (g.T.HostTree.is c.args.tree.now) d c.args.handles.now (g.T.HostTree.is c.in_file.new.tree)) (sym c.done-in-Some-File.ensures)
    (subst (λ (o : Option Sight). DoneBy (open_dir c.args.call.now.request.now o (room_in c.args.handles.now c.args.call.now.seat) has.temps) NodeOp.OpenDir c.args.call.now.seat c.args.handles.now (g.T.HostTree.is c.args.tree.now) (done_with c.in_file.result) c.args.handles.now (g.T.HostTree.is c.in_file.new.tree))
    (sym (c.seen_at.ensures.sight s l ∙ ap (option_map (sight_of c.args.book.now c.args.call.now.who.now)) c.in-Some-File.is ∙ ap (λ (p : SeenPlace). Some (sight_of c.args.book.now c.args.call.now.who.now p)) c.in-Some-File.field-0-is))
    (c.in_file.ensures c.args.call.now.seat c.args.handles.now))

pub returns-in-Some-Temporary-clause-ok : goal.returns-in-Some-Temporary-clause-ok
returns-in-Some-Temporary-clause-ok g c = λ has e s l.
    subst (λ (d : NodeDone). DoneBy (open_dir c.args.call.now.request.now (sight_of_place s c.args.call.now.who.now (naming_by c.args.own) (temp_by c.args.own) c.args.place) (room_in c.args.handles.now c.args.call.now.seat) has.temps) NodeOp.OpenDir c.args.call.now.seat c.args.handles.now (g.T.HostTree.is c.args.tree.now) d c.args.handles.now (g.T.HostTree.is c.in_named.new.tree)) (sym c.done-in-Some-Temporary.ensures)
    (subst (λ (o : Option Sight). DoneBy (open_dir c.args.call.now.request.now o (room_in c.args.handles.now c.args.call.now.seat) has.temps) NodeOp.OpenDir c.args.call.now.seat c.args.handles.now (g.T.HostTree.is c.args.tree.now) (done_with c.in_named.result) c.args.handles.now (g.T.HostTree.is c.in_named.new.tree))
    (sym (c.seen_at.ensures.sight s l ∙ ap (option_map (sight_of c.args.book.now c.args.call.now.who.now)) c.in-Some-Temporary.is ∙ ap (λ (p : SeenPlace). Some (sight_of c.args.book.now c.args.call.now.who.now p)) c.in-Some-Temporary.field-0-is))
    (c.in_named.ensures c.args.call.now.seat c.args.handles.now))

pub returns-in-Some-Below-clause-ok : goal.returns-in-Some-Below-clause-ok
returns-in-Some-Below-clause-ok g c = λ has e.
    IfOk-weaker c.in_below.result _ _
    (λ done h s l. subst (λ (o : Option Sight). DoneBy (open_dir c.args.call.now.request.now o (room_in c.args.handles.now c.args.call.now.seat) has.temps) NodeOp.OpenDir c.args.call.now.seat c.args.handles.now (g.T.HostTree.is c.args.tree.now) done c.in_below.new.handles (g.T.HostTree.is c.in_below.new.tree))
    (sym (c.seen_at.ensures.sight s l ∙ ap (option_map (sight_of c.args.book.now c.args.call.now.who.now)) c.in-Some-Below.is ∙ ap (λ (p : SeenPlace). Some (sight_of c.args.book.now c.args.call.now.who.now p)) c.in-Some-Below.field-0-is))
    h) (c.in_below.ensures.ok has.temps)

pub returns-in_ok-asked-in-Some-clause-ok : goal.returns-in_ok-asked-in-Some-clause-ok
returns-in_ok-asked-in-Some-clause-ok g c = λ has e s l.
    subst (λ (d : NodeDone). DoneBy (open_dir c.args.call.now.request.now (sight_of_place s c.args.call.now.who.now (naming_by c.args.own) (temp_by c.args.own) c.args.place) (room_in c.args.handles.now c.args.call.now.seat) has.temps) NodeOp.OpenDir c.args.call.now.seat c.args.handles.now
    (g.T.HostTree.is c.args.tree.now) d c.in_folder.new.handles (g.T.HostTree.is c.in_folder.new.tree)) (sym c.done-in-Some.ensures) (c.in_ok-asked-in-Some.ensures.ok has e s (naming_by c.args.own) (temp_by c.args.own) l)
