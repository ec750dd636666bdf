-- What is answered can be written, since the mount point keeps its rule.
use Rattle.std.proofs.Common.{◌≡◌, ℕ, List, IfOk, subst}
use Rattle.dbus_dispatch.specs.Asks.{asked}
use Rattle.dbus_dispatch.proofs.Writable.{asked_writes, error_writes}
use Rattle.dbus_dispatch.proofs.ask.request_of.Goals as goal

pub returns-in-Ok-clause-writable : goal.returns-in-Ok-clause-writable
returns-in-Ok-clause-writable c =
    asked_writes c.args.settings.now.mountpoint c.args.message.now c.as_bytes-mountpoint.ensures.rule c.fits.ensures c.asked.result c.in-Ok.method
    (subst (λ (path : List ℕ). IfOk c.asked.result (λ ask. ask ≡ asked path c.args.message.now c.in-Ok.method)) c.as_bytes-mountpoint.ensures.bytes c.asked.ensures)

pub returns-in_ok-answer_to-in-Err-clause-writable : goal.returns-in_ok-answer_to-in-Err-clause-writable
returns-in_ok-answer_to-in-Err-clause-writable c =
    error_writes c.args.settings.now.mountpoint c.args.message.now c.as_bytes-mountpoint.ensures.rule c.fits.ensures c.in_ok-answer_to-in-Err.field-0 c.in-Err.error c.in_ok-answer_to-in-Err.ensures
