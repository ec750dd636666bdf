use Rattle.std.proofs.Common.{◌-◌, arith}
use Rattle.dbus_values.proofs.LimitsByLayer.{bytes_deep, bytes_on, each_fits}
use Rattle.dbus_values.proofs.PackedBytes.{none_there}
use Rattle.dbus_values.proofs.keeping.bytes_keep.Goals as goal

pub returns-then-depth-eq0 : goal.returns-then-depth-eq0
returns-then-depth-eq0 c = bytes_deep c.is_empty.result c.args.depth c.args.bytes.now (omega arith) (none_there c.is_empty.result c.args.bytes.now c.is_empty.ensures)

pub returns : goal.returns
returns c = bytes_on c.args.depth (c.args.depth - 1) c.args.bytes.now (omega arith) (each_fits c.args.bytes.now (λ i. omega (arith, c.type_inv.bytes i)))
