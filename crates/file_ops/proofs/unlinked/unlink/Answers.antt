use Rattle.std.proofs.Common.{ap, subst, ◌∙◌}
use Rattle.portal_model.specs.Unlink.{unlink}
use Rattle.node_looks.specs.declared.served.NodeDone.{NodeDone}
use Rattle.file_ops.specs.Renames.{IsRemoved}
use Rattle.file_ops.specs.SeatNames.{seat_sight}
use Rattle.file_ops.specs.Tries.{done_of_ended, done_of_tried, moment_of}
use Rattle.file_ops.specs.declared.unlinked.Removing.{Removing}
use Rattle.file_ops.proofs.Moves.{dropped-saves}
use Rattle.file_ops.proofs.Removals.{refused-there, uncalled-there}
use Rattle.file_ops.proofs.unlinked.unlink.Goals as goal

pub returns-in-Refused-clause-ok : goal.returns-in-Refused-clause-ok
returns-in-Refused-clause-ok g c = λ table names has e f s l.
    refused-there (unlink c.args.name.now has.temps (seat_sight s c.args.call.now.who.now names has.temps c.args.call.now.request.now.node)) c.args.call.now.seat table c.args.temps.now _ _ c.in-Refused.tried c.removes.result c.done.result (c.removes.ensures.removed names has e f s l) c.in-Refused.is c.done.ensures

pub returns-in-Refused-clause-unclocked : goal.returns-in-Refused-clause-unclocked
returns-in-Refused-clause-unclocked g c = ap (λ (d : NodeDone). d.now) c.done.ensures ∙ ap moment_of (uncalled-there c.removes.result c.in-Refused.tried c.in-Refused.is c.removes.ensures.uncalled)

pub returns-in-Temp-clause-ok : goal.returns-in-Temp-clause-ok
returns-in-Temp-clause-ok g c = λ table names has e f s l.
    let w = unlink c.args.name.now has.temps (seat_sight s c.args.call.now.who.now names has.temps c.args.call.now.request.now.node) in
    let old = g.T.HostTree.is c.args.tree.now in
    let new = g.T.HostTree.is c.removes.new.tree in
    let h : IsRemoved w old (Removing.Temp c.in-Temp.k) new = subst (λ (x : Removing). IsRemoved w old x new) c.in-Temp.is (c.removes.ensures.removed names has e f s l) in
    dropped-saves c.args.call.now.seat table c.args.temps.now c.drop_temp.new.temps w c.in-Temp.k old new c.done-in-Temp.result c.told.result h.0 h.1 (c.done-in-Temp.ensures ∙ ap done_of_tried c.unlooked.ensures) c.told.ensures.same c.drop_temp.ensures.temps c.drop_temp.ensures.taken

pub returns-in-Temp-clause-unclocked : goal.returns-in-Temp-clause-unclocked
returns-in-Temp-clause-unclocked g c = ap (λ (d : NodeDone). d.now) (c.done-in-Temp.ensures ∙ (ap done_of_tried c.unlooked.ensures ∙ ap done_of_ended c.told.ensures.same))
