use Rattle.std.proofs.Common.{◌∙◌, ap, not, sym}
use Rattle.std.proofs.lemmas.Result.{on_err_weaker}
use Rattle.file_ops.proofs.Openings.{shown-opens, wants-after}
use Rattle.file_ops.proofs.opening.open_shown.Goals as goal

pub returns-clause-ok : goal.returns-clause-ok
returns-clause-ok g c = λ size moment.
    shown-opens c.args.call.now.request.now c.args.flags c.args.seen.document.now c.args.path.now c.in_ok-replica.field-0 c.args.seen.may_write c.args.generation size moment c.args.call.now.seat c.args.handles.now c.take_room.new.handles _ _ _
    c.in_ok-replica.ensures (sym c.is_denied.ensures ∙ c.if-is_denied.false) (c.in_ok-take_room.ensures.full ∙ ap not c.if-not-branch.false) c.take_room.ensures.kept
    c.open_name.result c.open_name.ensures.ok

pub returns-clause-err : goal.returns-clause-err
returns-clause-err g c = on_err_weaker c.open_name.result (wants-after 1 c.args.call.now.seat c.args.handles.now c.take_room.new.handles _ _ _ c.take_room.ensures.kept) c.open_name.ensures.err
