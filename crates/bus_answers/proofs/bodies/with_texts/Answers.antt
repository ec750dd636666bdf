use Rattle.std.proofs.Common.{◌∙◌, ap, length, length-append, arith}
use Rattle.dbus_message.proofs.WriteMessage.{body_sealed}
use Rattle.bus_answers.specs.Begun.{texts_at}
use Rattle.bus_answers.proofs.bodies.with_texts.Goals as goal

pub sealed-requires-clause-front : goal.sealed-requires-clause-front
sealed-requires-clause-front c = omega (arith, c.len_of-start.ensures, c.requires.long)

pub sealed-requires-clause-within : goal.sealed-requires-clause-within
sealed-requires-clause-within c =
    omega (arith, c.len_of-start.ensures, ap length (c.from_vec.ensures ∙ c.in_ok-put_texts.ensures.items), length-append c.args.front.items (texts_at (length c.args.front.items) c.args.ids.now))

pub returns-clause-bytes : goal.returns-clause-bytes
returns-clause-bytes c =
    body_sealed c.args.front.items (texts_at (length c.args.front.items) c.args.ids.now) c.from_vec.result c.sealed.result c.len_of-start.result c.len_of-start.ensures c.requires.long (c.from_vec.ensures ∙ c.in_ok-put_texts.ensures.items) c.sealed.ensures
