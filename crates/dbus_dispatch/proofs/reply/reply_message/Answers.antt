-- What is told can be written, since the mount point keeps its rule.
use Rattle.std.proofs.Common.{◌≡◌, ℕ, List, IfOk, subst}
use Rattle.dbus_dispatch.specs.Replies.{reply_of}
use Rattle.dbus_dispatch.proofs.Writable.{reply_writes}
use Rattle.dbus_dispatch.proofs.reply.reply_message.Goals as goal

pub returns-clause-writable : goal.returns-clause-writable
returns-clause-writable c =
    reply_writes c.args.settings.now.mountpoint c.args.call.now c.as_bytes-mountpoint.ensures.rule c.fits.ensures c.reply_of.result c.args.answer.now
    (subst (λ (path : List ℕ). IfOk c.reply_of.result (λ reply. reply ≡ reply_of path c.args.call.now c.args.answer.now)) c.as_bytes-mountpoint.ensures.bytes c.reply_of.ensures.told)
    c.reply_of.ensures.utf8
