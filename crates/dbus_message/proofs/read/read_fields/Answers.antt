use Rattle.std.proofs.Common.{arith}
use Rattle.dbus_message.proofs.Arrays.{fields_short, fields_good, fields_bad}
use Rattle.dbus_message.proofs.read.read_fields.Goals as goal

pub returns-then-read-bytes : goal.returns-then-read-bytes
returns-then-read-bytes c = fields_short c.args.endian c.args.bytes.now c.in-Ok.read.fields c.in-Ok.read.next c.requires c.in-Ok.ensures.only (omega arith)

pub returns-else-read-bytes : goal.returns-else-read-bytes
returns-else-read-bytes c = fields_good c.args.endian c.args.bytes.now c.in-Ok.read.fields c.in-Ok.read.next c.requires c.in-Ok.ensures.only (omega arith) (c.in-Ok.ensures.found.2, c.in-Ok.ensures.found.3, c.in-Ok.ensures.found.4)

pub returns-in-Err : goal.returns-in-Err
returns-in-Err c = rw c.broken.ensures (fields_bad c.args.endian c.args.bytes.now c.in-Err.error _ c.in-Err.ensures.only)
