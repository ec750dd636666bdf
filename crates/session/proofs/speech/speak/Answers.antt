use Rattle.std.proofs.Common.{◌≡◌, sym, ap, ◌∙◌, [], ◌∷◌, ◌++◌, ℕ, List}
use Rattle.dbus_message.specs.Written.{message_bytes}
use Rattle.dbus_message.proofs.WrittenHasSpelling.{is_spelled}
use Rattle.session.proofs.ServeItem.{serial_good}
use Rattle.session.proofs.speech.speak.Goals as goal

pub write_message-requires : goal.write_message-requires
write_message-requires c =
    let next = c.serial_after-next in
    c.requires next.result (λ z. serial_good c.args.speech.now.serial (sym next.ensures ∙ z)) next.type_inv

pub returns-clause-pieces : goal.returns-clause-pieces
returns-clause-pieces c =
    let next = c.serial_after-next in
    let message = c.args.message.now in
    let can = c.requires next.result (λ z. serial_good c.args.speech.now.serial (sym next.ensures ∙ z)) next.type_inv in
    let bytes : c.in_ok-bytes.bytes ≡ message_bytes message next.result = c.in_ok-bytes.ensures.one _ (is_spelled message next.result can) in
    c.in_ok-push.ensures.ok ∙ ap (λ (z : List ℕ). c.args.speech.now.pieces ++ z ∷ []) (bytes ∙ ap (message_bytes message) next.ensures)
