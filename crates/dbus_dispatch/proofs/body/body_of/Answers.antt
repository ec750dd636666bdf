use Rattle.std.proofs.Common.{subst}
use Rattle.std.specs.Prelude.{All, IsUtf8}
use Rattle.dbus_dispatch.proofs.Walked.{any_ok}
use Rattle.dbus_dispatch.proofs.body.body_of.Goals as goal

pub returns-in-Entry-clause-utf8 : goal.returns-in-Entry-clause-utf8
returns-in-Entry-clause-utf8 c = rw c.in-Entry.is (rw c.as_slice-in-Entry.ensures at c.entry.ensures.utf8)

pub returns-in_ok-texts_value-in-Names-clause-utf8 : goal.returns-in_ok-texts_value-in-Names-clause-utf8
returns-in_ok-texts_value-in-Names-clause-utf8 c =
    rw c.in-Names.is (any_ok (All IsUtf8 c.in-Names.names) c.only-in-Names.result (subst (All IsUtf8) c.as_slice-in-Names.ensures c.in_ok-texts_value-in-Names.ensures.utf8))
