use Rattle.std.proofs.Common.{sym, ◌∙◌}
use Rattle.dbus_dispatch.proofs.ReturnLength.{empty_within, body_within}
use Rattle.dbus_dispatch.proofs.reply.is_within_limit.Goals as goal

pub returns-then-is_empty : goal.returns-then-is_empty
returns-then-is_empty c = empty_within c.args.call.now.serial c.args.body.now c.if-is_empty.ensures

pub returns : goal.returns
returns c =
    body_within c.args.call.now.serial c.args.body.now c.in_ok-signature.signature c.in_ok-values.values c.is_short.result (sym c.if-is_empty.false ∙ c.is_empty.ensures) c.in_ok-signature.ensures c.in_ok-values.ensures c.is_short.ensures
