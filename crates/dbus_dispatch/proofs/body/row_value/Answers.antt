use Rattle.std.proofs.Common.{subst}
use Rattle.std.specs.Prelude.{All, IsUtf8}
use Rattle.dbus_dispatch.proofs.body.row_value.Goals as goal

pub returns-clause-utf8 : goal.returns-clause-utf8
returns-clause-utf8 c = record { app = c.in_ok-key.ensures.utf8; names = subst (All IsUtf8) c.as_slice.ensures c.in_ok-value.ensures.utf8 }
