use Rattle.record_keeper.proofs.HeldEntries.{good_differ, good_rows}
use Rattle.record_keeper.proofs.laws.good_records_keep_good_entries.Goals as goal

pub returns : goal.returns
returns c = record { differ = good_differ; rows = good_rows }
