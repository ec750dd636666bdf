use Rattle.record_keeper.proofs.KeptFacts.{kept_in_one_way}
use Rattle.record_keeper.proofs.laws.entries_are_kept_in_one_way.Goals as goal

pub returns : goal.returns
returns c = kept_in_one_way
