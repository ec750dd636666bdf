use Rattle.permission_table.proofs.HeldRecords.{valid-held}
use Rattle.permission_table.proofs.laws.valid_entries_are_held.Goals as goal

pub returns : goal.returns
returns c = valid-held
