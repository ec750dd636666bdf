use Rattle.record_keeper.proofs.OneIsWrong.{one_is_wrong}
use Rattle.record_keeper.proofs.laws.records_are_judged_in_one_way.Goals as goal

pub returns : goal.returns
returns c = one_is_wrong
