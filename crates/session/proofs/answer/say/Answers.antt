use Rattle.std.proofs.Common.{◌≡◌, ◌++◌, List, IfOk, map, subst}
use Rattle.dbus_dispatch.specs.Signals.{signal_of}
use Rattle.dbus_dispatch.specs.Writable.{IsWritable}
use Rattle.dbus_types.specs.declared.message.OutMessage.{OutMessage}
use Rattle.session.specs.Answers.{last_spoken, spoken}
use Rattle.session.proofs.ServeCall.{behind_reply, to_writable, where_ok}
use Rattle.session.proofs.answer.say.Goals as goal

pub spoken-requires-clause-writable : goal.spoken-requires-clause-writable
spoken-requires-clause-writable c =
    to_writable c.args.call.now c.in-Ok.message c.reply_to.result c.reply_to.ensures (where_ok c.args.answer c.in-Ok.message IsWritable c.in-Ok.is c.requires.writable)

pub returns-in-Ok-clause-pieces : goal.returns-in-Ok-clause-pieces
returns-in-Ok-clause-pieces c m e =
    subst (λ (z : List OutMessage). IfOk c.spoken.result (λ speech. speech.pieces ≡ spoken c.args.serial z))
    (behind_reply c.args.call.now (map signal_of c.args.changes.now) c.reply_to.result c.in-Ok.message m c.reply_to.ensures (where_ok c.args.answer c.in-Ok.message (λ (a : OutMessage). a ≡ m) c.in-Ok.is e)) c.spoken.ensures.pieces

pub returns-in-Ok-clause-serial : goal.returns-in-Ok-clause-serial
returns-in-Ok-clause-serial c m e =
    subst (λ (z : List OutMessage). IfOk c.spoken.result (λ speech. speech.serial ≡ last_spoken c.args.serial z))
    (behind_reply c.args.call.now (map signal_of c.args.changes.now) c.reply_to.result c.in-Ok.message m c.reply_to.ensures (where_ok c.args.answer c.in-Ok.message (λ (a : OutMessage). a ≡ m) c.in-Ok.is e)) c.spoken.ensures.serial
