use Rattle.std.proofs.Common.{IfSome, ap, is_some, subst, true, ◌≡◌, ◌∙◌}
use Rattle.portal_model.specs.Rename.{rename}
use Rattle.save_files.specs.Own.{own_on, temp_of}
use Rattle.node_looks.specs.TreeCalls.{WasCalledUpTo}
use Rattle.host_tree.specs.Trees.{TreeIs}
use Rattle.file_ops.specs.Renames.{call_told, number_left}
use Rattle.file_ops.specs.SeatNames.{seat_sight}
use Rattle.file_ops.specs.Tries.{done_of_ended}
use Rattle.file_ops.specs.declared.renamed.Moving.{Moving}
use Rattle.node_looks.specs.declared.served.NodeDone.{NodeDone}
use Rattle.file_ops.proofs.ChildWalks.{unread-below}
use Rattle.file_ops.proofs.Moves.{called-none, done-at-once, named-saves, refused-saves, saved-saves, uncalled-so}
use Rattle.file_ops.proofs.Savings.{same-kept}
use Rattle.file_ops.proofs.Tries.{on-err}
use Rattle.file_ops.proofs.renamed.rename.Goals as goal

pub returns-in-Refused-clause-ok : goal.returns-in-Refused-clause-ok
returns-in-Refused-clause-ok g c = λ table names has e f s l.
    let call = call_told c.args.asked in
    let who = c.args.call.now.who.now in
    refused-saves (rename call has.temps (seat_sight s who names has.temps c.args.call.now.request.now.node) (seat_sight s who names has.temps c.args.new_parent)) c.args.asked.new_name.now (own_on c.args.temps.now.seats c.args.call.now.seat) c.args.call.now.seat table c.args.temps.now _ _
    c.in-Refused.tried c.moves.result c.done.result (c.moves.ensures.moved names has e f s l) c.in-Refused.is c.done.ensures

pub returns-in-Refused-clause-unclocked : goal.returns-in-Refused-clause-unclocked
returns-in-Refused-clause-unclocked g c = unread-below c.in-Refused.tried c.done.result c.done.ensures (uncalled-so c.moves.result c.in-Refused.tried c.in-Refused.is c.moves.ensures.uncalled)

pub saved-requires : goal.saved-requires
saved-requires g c = subst (λ (m : Moving). IfSome (number_left m) (λ k. is_some (temp_of (own_on c.args.temps.now.seats c.args.call.now.seat) k) ≡ true)) c.in-Saved.is c.moves.ensures.there

pub returns-in_ok-ended-in-Saved-clause-ok : goal.returns-in_ok-ended-in-Saved-clause-ok
returns-in_ok-ended-in-Saved-clause-ok g c = λ table names has e f s l.
    let call = call_told c.args.asked in
    let who = c.args.call.now.who.now in
    saved-saves c.args.call.now.seat table c.args.temps.now c.saved.new.temps (rename call has.temps (seat_sight s who names has.temps c.args.call.now.request.now.node) (seat_sight s who names has.temps c.args.new_parent)) c.args.asked.new_name.now (own_on c.args.temps.now.seats c.args.call.now.seat)
    c.in-Saved.k _ _ _ c.moves.result c.done-in-Saved.result c.in_ok-ended-in-Saved.ended (c.moves.ensures.moved names has e f s l) c.in-Saved.is
    (done-at-once c.done-in-Saved.result c.at_once.result c.unlooked.result c.in_ok-ended-in-Saved.ended c.done-in-Saved.ensures c.at_once.ensures c.unlooked.ensures)
    (c.in_ok-ended-in-Saved.ensures.ok table)

pub returns-in_ok-ended-in-Saved-clause-unclocked : goal.returns-in_ok-ended-in-Saved-clause-unclocked
returns-in_ok-ended-in-Saved-clause-unclocked g c =
    ap (λ (d : NodeDone). d.now) (done-at-once c.done-in-Saved.result c.at_once.result c.unlooked.result c.in_ok-ended-in-Saved.ended c.done-in-Saved.ensures c.at_once.ensures c.unlooked.ensures) ∙ c.in_ok-ended-in-Saved.ensures.unclocked

pub returns-in_err-ended-in-Saved-clause-err : goal.returns-in_err-ended-in-Saved-clause-err
returns-in_err-ended-in-Saved-clause-err g c =
    let still : g.T.HostTree.is c.moves.new.tree ≡ g.T.HostTree.is c.args.tree.now = ap (g.T.HostTree.is) (subst (λ (m : Moving). IfSome (number_left m) (λ k. c.moves.new.tree ≡ c.args.tree.now)) c.in-Saved.is c.moves.ensures.still) in
    on-err c.from_residual-in_err-ended-in-Saved.result _ (subst (λ (t : TreeIs). WasCalledUpTo 1 t (g.T.HostTree.is c.saved.new.tree)) still c.in_err-ended-in-Saved.ensures.err)

pub returns-in_err-ended-in-Saved-clause-temps_err : goal.returns-in_err-ended-in-Saved-clause-temps_err
returns-in_err-ended-in-Saved-clause-temps_err g c = on-err c.from_residual-in_err-ended-in-Saved.result _ (same-kept _ _ c.in_err-ended-in-Saved.ensures.temps_err)

pub rename_temp-requires : goal.rename_temp-requires
rename_temp-requires g c = subst (λ (m : Moving). IfSome (number_left m) (λ k. is_some (temp_of (own_on c.args.temps.now.seats c.args.call.now.seat) k) ≡ true)) c.in-Named.is c.moves.ensures.there

pub returns-in_ok-rename_temp-in-Named-clause-ok : goal.returns-in_ok-rename_temp-in-Named-clause-ok
returns-in_ok-rename_temp-in-Named-clause-ok g c = λ table names has e f s l.
    let call = call_told c.args.asked in
    let who = c.args.call.now.who.now in
    named-saves c.args.call.now.seat table c.args.temps.now c.rename_temp.new.temps (rename call has.temps (seat_sight s who names has.temps c.args.call.now.request.now.node) (seat_sight s who names has.temps c.args.new_parent)) c.args.asked.new_name.now (own_on c.args.temps.now.seats c.args.call.now.seat)
    c.in-Named.named _ _ c.moves.result c.done-in-Named.result c.told-ended.result (c.moves.ensures.moved names has e f s l) c.in-Named.is
    (done-at-once c.done-in-Named.result c.at_once-in-Named.result c.unlooked-in-Named.result c.told-ended.result c.done-in-Named.ensures c.at_once-in-Named.ensures c.unlooked-in-Named.ensures) c.told-ended.ensures.same
    c.in_ok-rename_temp-in-Named.ensures.ok c.rename_temp.ensures.taken

pub returns-in_ok-rename_temp-in-Named-clause-unclocked : goal.returns-in_ok-rename_temp-in-Named-clause-unclocked
returns-in_ok-rename_temp-in-Named-clause-unclocked g c =
    ap (λ (d : NodeDone). d.now)
    (done-at-once c.done-in-Named.result c.at_once-in-Named.result c.unlooked-in-Named.result c.told-ended.result c.done-in-Named.ensures c.at_once-in-Named.ensures c.unlooked-in-Named.ensures
    ∙ ap done_of_ended c.told-ended.ensures.same)

pub returns-in_err-rename_temp-in-Named-clause-err : goal.returns-in_err-rename_temp-in-Named-clause-err
returns-in_err-rename_temp-in-Named-clause-err g c =
    let still : g.T.HostTree.is c.moves.new.tree ≡ g.T.HostTree.is c.args.tree.now = ap (g.T.HostTree.is) (subst (λ (m : Moving). IfSome (number_left m) (λ k. c.moves.new.tree ≡ c.args.tree.now)) c.in-Named.is c.moves.ensures.still) in
    on-err c.from_residual-in_err-rename_temp-in-Named.result _ (called-none 1 (g.T.HostTree.is c.args.tree.now) (g.T.HostTree.is c.moves.new.tree) still)
