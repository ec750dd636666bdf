use Rattle.std.proofs.Common.{◌≡◌, [], ◌++◌, List, Option, IfOk, ap, length, map, refl, subst, sym, arith}
use Rattle.std.specs.Prelude.{option_to_list}
use Rattle.bus_answers.specs.declared.begun.Begun.{Begun}
use Rattle.bus_answers.specs.Begun.{IsBegun, IsBegunIf}
use Rattle.dbus_dispatch.specs.Replies.{reply_of}
use Rattle.dbus_dispatch.specs.Signals.{signal_of}
use Rattle.portal_model.specs.declared.reply.Change.{Change}
use Rattle.session.specs.Answers.{last_spoken, serial_after, spoken}
use Rattle.session.specs.Asked.{reply_to}
use Rattle.session.proofs.BegunReplies.{nil_of, none_err, not_little, where_err}
use Rattle.session.proofs.answer.answer_reply.Goals as goal

-- signals ride ahead of it
pub returns-then-len-gt0-clause-lacks : goal.returns-then-len-gt0-clause-lacks
returns-then-len-gt0-clause-lacks c = where_err c.say_reply.result (λ none little. omega (arith, c.if-len-gt0.true, c.len.ensures, ap length none))

-- it was begun
pub say_begun-requires-clause-begun : goal.say_begun-requires-clause-begun
say_begun-requires-clause-begun c =
    let path = c.args.client.now.settings.mountpoint in
    (path, subst (λ (o : Option Begun). IsBegunIf path c.args.call.now (serial_after c.args.serial) o) c.in-Some.ensures.some.0 c.requires.taken.1)

pub returns-in-Some-clause-pieces : goal.returns-in-Some-clause-pieces
returns-in-Some-clause-pieces c =
    let path = c.args.client.now.settings.mountpoint in
    let is : IsBegun path c.args.call.now (serial_after c.args.serial) c.in-Some.begun = subst (λ (o : Option Begun). IsBegunIf path c.args.call.now (serial_after c.args.serial) o) c.in-Some.ensures.some.0 c.requires.taken.1 in
    let none : c.args.told.now.signals ≡ [] = nil_of c.args.told.now.signals (omega (arith, c.if-len-gt0.false, c.len.ensures)) in
    subst (λ (cs : List Change). IfOk c.say_begun.result (λ speech. speech.pieces ≡ spoken c.args.serial (map signal_of cs ++ option_to_list (reply_to c.args.call.now (reply_of path c.args.call.now c.args.told.now.answer))))) (sym none)
    (c.say_begun.ensures.pieces path is)

pub returns-in-Some-clause-serial : goal.returns-in-Some-clause-serial
returns-in-Some-clause-serial c =
    let path = c.args.client.now.settings.mountpoint in
    let is : IsBegun path c.args.call.now (serial_after c.args.serial) c.in-Some.begun = subst (λ (o : Option Begun). IsBegunIf path c.args.call.now (serial_after c.args.serial) o) c.in-Some.ensures.some.0 c.requires.taken.1 in
    let none : c.args.told.now.signals ≡ [] = nil_of c.args.told.now.signals (omega (arith, c.if-len-gt0.false, c.len.ensures)) in
    subst (λ (cs : List Change). IfOk c.say_begun.result (λ speech. speech.serial ≡ last_spoken c.args.serial (map signal_of cs ++ option_to_list (reply_to c.args.call.now (reply_of path c.args.call.now c.args.told.now.answer))))) (sym none)
    (c.say_begun.ensures.serial path is)

pub returns-in-Some-clause-lacks : goal.returns-in-Some-clause-lacks
returns-in-Some-clause-lacks c = none_err _ c.say_begun.result (c.say_begun.ensures.room c.requires.taken.0)

-- it tells more
pub returns-in-None-clause-lacks : goal.returns-in-None-clause-lacks
returns-in-None-clause-lacks c =
    where_err c.say_reply-in-None.result (λ none little.
    not_little c.args.client.now.settings.mountpoint c.args.call.now (serial_after c.args.serial) c.args.room.now.begun c.args.told.now.answer c.requires.taken.1 (c.in-None.ensures.none refl) little)
