use Rattle.std.proofs.Common.{ap, sym, ◌∙◌, length}
use Rattle.dbus_values.proofs.OneSpelling.{spells_same}
use Rattle.dbus_values.proofs.SpelledType.{spelled_kind}
use Rattle.dbus_values.proofs.Lengths.{same_length}
use Rattle.dbus_values.proofs.laws.spellings_are_one.Goals as goal

pub returns-clause-spelling : goal.returns-clause-spelling
returns-clause-spelling c e at t v bytes h = (spells_same 64 e t at v bytes h).0

pub returns-clause-kind : goal.returns-clause-kind
returns-clause-kind c e at t v bytes h = sym (spelled_kind e v) ∙ (spells_same 64 e t at v bytes h).1

pub returns-clause-length : goal.returns-clause-length
returns-clause-length c e at t v bytes h = ap length (spells_same 64 e t at v bytes h).0 ∙ same_length e at v
