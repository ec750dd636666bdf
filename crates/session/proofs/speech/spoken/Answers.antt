use Rattle.std.proofs.Common.{◌≡◌, [], ◌∷◌, ◌++◌, ℕ, List, map, ap, ◌∙◌}
use Rattle.dbus_types.specs.declared.message.OutMessage.{OutMessage}
use Rattle.dbus_dispatch.specs.Signals.{signal_of}
use Rattle.session.specs.Answers.{spoken}
use Rattle.session.proofs.Messages.{pieces_behind, serial_behind}
use Rattle.session.proofs.speech.spoken.Goals as goal

pub returns-in_ok-speak-in-Some-clause-pieces : goal.returns-in_ok-speak-in-Some-clause-pieces
returns-in_ok-speak-in-Some-clause-pieces c =
    let signals : List OutMessage = map signal_of c.args.changes.now in
    let first = c.in_ok-speak_signals.ensures in
    let then = c.speak_signals.new.speech in
    let front : then.pieces ≡ spoken c.args.serial signals = first.pieces ∙ ap (λ (z : List (List ℕ)). z ++ spoken c.args.serial signals) c.new.ensures in
    rw c.in-Some.is (pieces_behind signals (c.in-Some.message ∷ []) c.args.serial then.serial [] then.pieces c.speak.new.speech.pieces front first.serial c.in_ok-speak-in-Some.ensures.pieces)

pub returns-in_ok-speak-in-Some-clause-serial : goal.returns-in_ok-speak-in-Some-clause-serial
returns-in_ok-speak-in-Some-clause-serial c =
    rw c.in-Some.is (serial_behind (map signal_of c.args.changes.now) (c.in-Some.message ∷ []) c.args.serial c.speak_signals.new.speech.serial c.speak.new.speech.serial c.in_ok-speak_signals.ensures.serial c.in_ok-speak-in-Some.ensures.serial)
