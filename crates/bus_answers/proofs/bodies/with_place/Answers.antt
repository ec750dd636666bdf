use Rattle.std.proofs.Common.{◌∙◌, ap, length, length-append, arith}
use Rattle.std.specs.Int.{w32}
use Rattle.dbus_types.specs.declared.types.Endian.TheVariants.{Little}
use Rattle.dbus_values.specs.Spells.{number}
use Rattle.dbus_message.proofs.WriteMessage.{body_sealed}
use Rattle.bus_answers.proofs.bodies.with_place.Goals as goal

pub sealed-requires-clause-front : goal.sealed-requires-clause-front
sealed-requires-clause-front c = omega (arith, c.len_of-start.ensures, c.requires)

pub sealed-requires-clause-within : goal.sealed-requires-clause-within
sealed-requires-clause-within c =
    omega (arith, c.len_of-start.ensures, ap length (c.from_vec.ensures ∙ c.in_ok-put_number.ensures.items), length-append c.args.front.items (number Little w32 c.args.place))

pub returns-clause-bytes : goal.returns-clause-bytes
returns-clause-bytes c =
    body_sealed c.args.front.items (number Little w32 c.args.place) c.from_vec.result c.sealed.result c.len_of-start.result c.len_of-start.ensures c.requires (c.from_vec.ensures ∙ c.in_ok-put_number.ensures.items) c.sealed.ensures
