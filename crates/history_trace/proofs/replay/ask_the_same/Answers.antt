use Rattle.std.proofs.Common.{ℕ, List, ap, subst, ◌∙◌}
use Rattle.app_world.specs.Touched.{is_done}
use Rattle.given_laws.proofs.OneEntry.{entry-one}
use Rattle.host_tree.specs.Devices.{QuietState}
use Rattle.portal_steps.specs.Story.{PortalIs}
use Rattle.portal_model.specs.declared.reply.Reply.{Reply}
use Rattle.portal_model.specs.declared.request.Request.{Request}
use Rattle.history_trace.specs.declared.idle.IdleKeeper.{IdleKeeper}
use Rattle.history_trace.specs.Replayed.{Replies}
use Rattle.history_trace.proofs.Going.{goes-on, moment-or, same-reply}
use Rattle.history_trace.proofs.replay.ask_the_same.Goals as goal

pub returns-clause-goes : goal.returns-clause-goes
returns-clause-goes c =
    let e = c.args.entry.now in
    let old : PortalIs QuietState IdleKeeper ℕ (List ℕ) = record c.args.portal.now { clock = c.unwrap_or.result; words = c.new-words.result } in
    let there = subst (λ (p : PortalIs QuietState IdleKeeper ℕ (List ℕ)). Replies p e.seat c.in_ok-request.request c.ask.new.portal c.in_ok-reply.reply) c.set_outside.ensures c.in_ok-reply.ensures in
    let replied = subst (λ (q : Request). Replies old e.seat q c.ask.new.portal c.in_ok-reply.reply) c.in_ok-request.ensures there in
    goes-on old c.ask.new.portal e c.in_ok-reply.reply c.requires.lawful entry-one replied c.requires.unfaulted (c.unwrap_or.ensures ∙ moment-or e.given.now) (c.new-words.ensures ∙ c.in_ok-replica.ensures) c.requires.room.told

pub returns-clause-done : goal.returns-clause-done
returns-clause-done c =
    let e = c.args.entry.now in
    let old : PortalIs QuietState IdleKeeper ℕ (List ℕ) = record c.args.portal.now { clock = c.unwrap_or.result; words = c.new-words.result } in
    let there = subst (λ (p : PortalIs QuietState IdleKeeper ℕ (List ℕ)). Replies p e.seat c.in_ok-request.request c.ask.new.portal c.in_ok-reply.reply) c.set_outside.ensures c.in_ok-reply.ensures in
    let replied = subst (λ (q : Request). Replies old e.seat q c.ask.new.portal c.in_ok-reply.reply) c.in_ok-request.ensures there in
    c.is_done.ensures
    ∙ ap (λ (x : Reply). is_done x.answer) (same-reply old c.ask.new.portal e c.in_ok-reply.reply c.requires.lawful entry-one replied c.requires.unfaulted (c.unwrap_or.ensures ∙ moment-or e.given.now) (c.new-words.ensures ∙ c.in_ok-replica.ensures) c.requires.room.told)
