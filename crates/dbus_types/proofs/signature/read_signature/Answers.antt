use Rattle.dbus_types.proofs.WholeSignatures.{read_reading, read_only, checked_none}
use Rattle.dbus_types.proofs.signature.read_signature.Goals as goal

pub returns-in-Err-clause-only : goal.returns-in-Err-clause-only
returns-in-Err-clause-only c = λ ts k. absurd (checked_none c.args.text.now c.in-Err.error ts c.in-Err.ensures.checked k)

pub returns-in-Ok-clause-reading : goal.returns-in-Ok-clause-reading
returns-in-Ok-clause-reading c = read_reading c.args.text.now c.read_list.result c.in-Ok.ensures.checked.1.2 c.read_list.ensures

pub returns-in-Ok-clause-only : goal.returns-in-Ok-clause-only
returns-in-Ok-clause-only c = λ ts k. read_only c.args.text.now ts c.read_list.result k c.read_list.ensures
