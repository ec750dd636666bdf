use Rattle.std.proofs.Common.{◌∙◌, sym, arith}
use Rattle.std.proofs.lemmas.Bool.{true≢false}
use Rattle.dbus_values.proofs.PackedBytes.{flat_bytes, deep_bytes, none_there}
use Rattle.dbus_values.proofs.nesting.around_bytes.Goals as goal

pub returns-then-is_empty : goal.returns-then-is_empty
returns-then-is_empty c = omega (arith, flat_bytes c.args.bytes.now ((none_there c.is_empty.result c.args.bytes.now c.is_empty.ensures).0 c.if-is_empty.true))

pub returns : goal.returns
returns c = omega (arith, deep_bytes c.args.bytes.now (λ e. true≢false (sym ((none_there c.is_empty.result c.args.bytes.now c.is_empty.ensures).1 e) ∙ c.if-is_empty.false)))
