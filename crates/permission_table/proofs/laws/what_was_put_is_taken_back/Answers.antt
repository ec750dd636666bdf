use Rattle.permission_table.proofs.TakenBack.{taken-back}
use Rattle.permission_table.proofs.laws.what_was_put_is_taken_back.Goals as goal

pub returns : goal.returns
returns c = λ before e. taken-back e before
