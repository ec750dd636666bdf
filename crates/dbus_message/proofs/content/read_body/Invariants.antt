use Rattle.std.proofs.Common.{drop}
use Rattle.dbus_message.proofs.Bodies.{Ahead}
use Rattle.dbus_message.proofs.content.read_body.Given as goal

abbrev pub invariant-loop-kind : goal.invariant-loop-kind
invariant-loop-kind l = Ahead l.endian l.bytes l.types l.values l.next (drop l.kind-index l.types)
