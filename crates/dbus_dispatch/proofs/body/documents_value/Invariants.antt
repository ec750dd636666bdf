use Rattle.std.proofs.Common.{◌≡◌, map, take}
use Rattle.dbus_dispatch.specs.Replies.{listed_value}
use Rattle.dbus_dispatch.proofs.body.documents_value.Given as goal

-- each document so far is a value
abbrev pub invariant-loop-document : goal.invariant-loop-document
invariant-loop-document l = l.items ≡ map listed_value (take l.document-index l.documents)
