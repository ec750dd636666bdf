use Rattle.std.proofs.Common.{◌≡◌, ◌∙◌, false, true, sym}
use Rattle.std.proofs.lemmas.Result.{IfOk-weaker}
use Rattle.bus_answers.proofs.Messages.{front_long}
use Rattle.dbus_dispatch.specs.Replies.{reply_of}
use Rattle.session.specs.Answers.{serial_after}
use Rattle.session.proofs.BegunReplies.{none_said, one_said}
use Rattle.session.proofs.answer.say_begun.Goals as goal

pub finish-requires-clause-long : goal.finish-requires-clause-long
finish-requires-clause-long c = front_long c.requires.begun.0 c.args.call.now (serial_after c.args.serial) c.args.begun c.requires.begun.1

pub finish-requires-clause-wide : goal.finish-requires-clause-wide
finish-requires-clause-wide c = c.requires.begun.1.wide

pub finish-requires-clause-told : goal.finish-requires-clause-told
finish-requires-clause-told c = c.requires.to_call c.args.begun.method c.requires.begun.1.method_is

-- no reply is expected
pub returns-then-not-expects_reply-clause-pieces : goal.returns-then-not-expects_reply-clause-pieces
returns-then-not-expects_reply-clause-pieces c = λ path is.
    c.new.ensures ∙ (none_said c.args.call.now (reply_of path c.args.call.now c.args.told.now.answer) c.args.serial (sym c.if-not-expects_reply.ensures)).0

pub returns-then-not-expects_reply-clause-serial : goal.returns-then-not-expects_reply-clause-serial
returns-then-not-expects_reply-clause-serial c = λ path is.
    (none_said c.args.call.now (reply_of path c.args.call.now c.args.told.now.answer) c.args.serial (sym c.if-not-expects_reply.ensures)).1

pub returns-clause-pieces : goal.returns-clause-pieces
returns-clause-pieces c = λ path is.
    let bytes = c.in_ok-piece.ensures.bytes path c.args.call.now (serial_after c.args.serial) is in
    let said = one_said c.args.call.now (reply_of path c.args.call.now c.args.told.now.answer) c.args.serial c.serial_after.result c.in_ok-piece.piece (sym c.if-not-expects_reply.ensures) bytes c.serial_after.ensures in
    IfOk-weaker c.one_piece.result _ _ (λ speech e. e ∙ said.0) c.one_piece.ensures.pieces

pub returns-clause-serial : goal.returns-clause-serial
returns-clause-serial c = λ path is.
    let bytes = c.in_ok-piece.ensures.bytes path c.args.call.now (serial_after c.args.serial) is in
    let said = one_said c.args.call.now (reply_of path c.args.call.now c.args.told.now.answer) c.args.serial c.serial_after.result c.in_ok-piece.piece (sym c.if-not-expects_reply.ensures) bytes c.serial_after.ensures in
    IfOk-weaker c.one_piece.result _ _ (λ speech e. e ∙ said.1) c.one_piece.ensures.serial

-- what was begun has room
pub returns-in_err-piece-clause-room : goal.returns-in_err-piece-clause-room
returns-in_err-piece-clause-room c = λ h.
    let no : false ≡ true = c.in_err-piece.ensures.room c.requires.begun.0 c.args.call.now (serial_after c.args.serial) c.requires.begun.1 in
    absurd (cc)
