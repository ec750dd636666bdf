use Rattle.std.proofs.Common.{◌≡◌, [], ◌∷◌, ◌++◌, ℕ, List, map, refl, sym, subst, take, append-nil, arith}
use Rattle.std.proofs.lemmas.List.{take_all}
use Rattle.portal_model.specs.declared.reply.Change.{Change}
use Rattle.dbus_types.specs.declared.message.OutMessage.{OutMessage}
use Rattle.dbus_dispatch.specs.Signals.{signal_of}
use Rattle.session.specs.Answers.{last_spoken, spoken}
use Rattle.session.proofs.Messages.{pieces_behind, serial_behind, signals_more, sound_at}
use Rattle.session.proofs.speech.speak_signals.Goals as goal

pub loop-change-init : goal.loop-change-init
loop-change-init c = record { pieces = sym (append-nil c.args.speech.now.pieces); serial = refl }

pub speak-requires : goal.speak-requires
speak-requires c =
    c.in_ok-signal.ensures.writable (sound_at c.args.changes.now c.loop-change.change-index c.change-item.result (omega arith) c.requires c.change-item.is)

pub loop-change-preserved : goal.loop-change-preserved
loop-change-preserved c =
    let l = c.loop-change in
    let now = c.speak.new.speech in
    let s : ℕ = c.args.speech.now.serial in
    let before : List (List ℕ) = c.args.speech.now.pieces in
    let m : OutMessage = c.in_ok-signal.signal in
    let ms : List OutMessage = map signal_of (take l.change-index c.args.changes.now) in
    let more = signals_more c.args.changes.now l.change-index c.change-item.result m (omega arith) c.change-item.is c.in_ok-signal.ensures.tells in record {
      pieces = subst (λ (z : List OutMessage). now.pieces ≡ before ++ spoken s z) more (pieces_behind ms (m ∷ []) s l.speech.serial before l.speech.pieces now.pieces l.invariant.pieces l.invariant.serial c.in_ok-speak.ensures.pieces);
      serial = subst (λ (z : List OutMessage). now.serial ≡ last_spoken s z) more (serial_behind ms (m ∷ []) s l.speech.serial now.serial l.invariant.serial c.in_ok-speak.ensures.serial);
    }

pub returns-clause-pieces : goal.returns-clause-pieces
returns-clause-pieces c =
    let l = c.loop-change in
    let all = take_all l.change-index c.args.changes.now (omega arith) in
    subst (λ (z : List Change). l.speech.pieces ≡ c.args.speech.now.pieces ++ spoken c.args.speech.now.serial (map signal_of z)) all l.invariant.pieces

pub returns-clause-serial : goal.returns-clause-serial
returns-clause-serial c =
    let l = c.loop-change in
    let all = take_all l.change-index c.args.changes.now (omega arith) in
    subst (λ (z : List Change). l.speech.serial ≡ last_spoken c.args.speech.now.serial (map signal_of z)) all l.invariant.serial
