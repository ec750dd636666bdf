use Rattle.script_form.proofs.OpeningFacts.{one_opening}
use Rattle.script_form.proofs.laws.scripts_open_in_one_way.Goals as goal

pub returns : goal.returns
returns c = one_opening
