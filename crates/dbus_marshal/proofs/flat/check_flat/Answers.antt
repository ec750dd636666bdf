use Rattle.std.proofs.Common.{drop}
use Rattle.dbus_marshal.proofs.Depths.{flat_fixed}
use Rattle.dbus_marshal.proofs.flat.check_flat.Goals as goal

pub returns-in_default-clause-read : goal.returns-in_default-clause-read
returns-in_default-clause-read c =
    let d = c.in_default in
    rw (flat_fixed c.args.endian c.args.kind.now c.args.at (drop c.args.at c.args.bytes.now) d.not-Byte d.not-Bool d.not-Str d.not-ObjectPath d.not-Signature) c.check_fixed.ensures.read
