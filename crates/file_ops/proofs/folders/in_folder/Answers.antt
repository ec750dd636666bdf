use Rattle.std.proofs.Common.{◌∙◌, Bool, None, Option, Some, ap, not, subst, sym}
use Rattle.host_tree.specs.Trees.{Asks}
use Rattle.host_tree.specs.declared.tree.TreeCall.TheVariants as TreeCall
use Rattle.portal_base.specs.declared.files.Look.TheVariants as Look
use Rattle.portal_model.specs.declared.request.NodeOp.TheVariants as NodeOp
use Rattle.portal_model.specs.OpenDir.{open_dir}
use Rattle.portal_model.specs.Place.{Sight}
use Rattle.node_looks.specs.Done.{DoneBy, done_with, room_in}
use Rattle.file_ops.specs.OpenedFolders.{Lists, ListsBehind}
use Rattle.node_looks.specs.Sights.{sight_of}
use Rattle.node_looks.specs.declared.asked.Asked.{Asked}
use Rattle.file_ops.proofs.OneLook.{called-once}
use Rattle.file_ops.proofs.OpenedDirs.{dir-at-once, dir-behind-look, on-err, still-wants}
use Rattle.file_ops.proofs.folders.in_folder.Goals as goal

pub returns-in_err-by_look-in-Some-clause-err : goal.returns-in_err-by_look-in-Some-clause-err
returns-in_err-by_look-in-Some-clause-err g c =
    on-err c.from_residual-in_err-by_look-in-Some.result _
    (still-wants c.args.call.now.seat _ _ _ _ _ c.take_room.ensures.kept c.in_err-by_look-in-Some.ensures.err.0
    (called-once _ _ (subst (λ (b : Bool). Asks TreeCall.Look (g.T.HostTree.is c.args.tree.now) b (g.T.HostTree.is c.look-look.new.self)) c.in_err-by_look-in-Some.ensures.err.1 c.look-look.ensures.asks)))

pub returns-in_ok-by_look-in-Some-clause-ok : goal.returns-in_ok-by_look-in-Some-clause-ok
returns-in_ok-by_look-in-Some-clause-ok g c = λ has e s named temp l.
    let seen = c.requires.seen s named temp l in
    let sight = sight_of c.args.book.now c.args.call.now.who.now c.args.folder in
    subst (λ (o : Option Sight). DoneBy (open_dir c.args.call.now.request.now o (room_in c.args.handles.now c.args.call.now.seat) has.temps) NodeOp.OpenDir c.args.call.now.seat c.args.handles.now (g.T.HostTree.is c.args.tree.now)
    (done_with (record { answer = c.in_ok-by_look-in-Some.field-0; look = Some c.look-look.result })) c.by_look.new.handles (g.T.HostTree.is c.look-look.new.self)) (sym seen)
    (dir-behind-look c.args.call.now.request.now sight _ c.args.call.now.seat c.look-look.result _ c.args.handles.now c.take_room.new.handles _ _ _ has.temps c.in_ok-own-in-Some.own
    (sym (rw c.in-Some.is at c.document_in.ensures.home c.args.book.now c.args.call.now.who.now)) (c.in_ok-own-in-Some.ensures has e)
    (c.in_ok-take_room.ensures.full ∙ ap not c.if-not-branch.false)
    c.take_room.ensures.kept c.look-look.ensures.asks c.look-look.ensures.looks
    (subst (λ (o : Option Sight). ListsBehind c.args.call.now.request.now o c.args.call.now.seat c.look-look.result c.in_ok-own-in-Some.own c.take_room.new.handles c.in_ok-by_look-in-Some.field-0 c.by_look.new.handles) (c.requires.seen s None None l) (c.in_ok-by_look-in-Some.ensures.ok s l)))

pub returns-in_ok-answer-in-None-clause-ok : goal.returns-in_ok-answer-in-None-clause-ok
returns-in_ok-answer-in-None-clause-ok g c = λ has e s named temp l.
    let sight = sight_of c.args.book.now c.args.call.now.who.now c.args.folder in
    subst (λ (o : Option Sight). DoneBy (open_dir c.args.call.now.request.now o (room_in c.args.handles.now c.args.call.now.seat) has.temps) NodeOp.OpenDir c.args.call.now.seat c.args.handles.now (g.T.HostTree.is c.args.tree.now) (done_with c.unlooked-in-None.result) c.listed.new.handles
    (g.T.HostTree.is c.args.tree.now)) (sym (c.requires.seen s named temp l))
    (subst (λ (asked : Asked). DoneBy (open_dir c.args.call.now.request.now (Some sight) (room_in c.args.handles.now c.args.call.now.seat) has.temps) NodeOp.OpenDir c.args.call.now.seat c.args.handles.now (g.T.HostTree.is c.args.tree.now) (done_with asked) c.listed.new.handles
    (g.T.HostTree.is c.args.tree.now)) (sym c.unlooked-in-None.ensures)
    (dir-at-once c.args.call.now.request.now sight c.args.call.now.seat c.in_ok-answer-in-None.answer c.args.handles.now c.take_room.new.handles c.listed.new.handles (g.T.HostTree.is c.args.tree.now) has.temps c.new-none.result c.new-none.ensures
    (sym (rw c.in-None.is at c.document_in.ensures.home c.args.book.now c.args.call.now.who.now)) c.requires.folder (c.in_ok-take_room.ensures.full ∙ ap not c.if-not-branch.false) c.take_room.ensures.kept
    (subst (λ (o : Option Sight). Lists c.args.call.now.request.now o c.args.call.now.seat Look.Missing c.new-none.result c.take_room.new.handles c.in_ok-answer-in-None.answer c.listed.new.handles) (c.requires.seen s None None l) (c.in_ok-answer-in-None.ensures.ok s l))))
