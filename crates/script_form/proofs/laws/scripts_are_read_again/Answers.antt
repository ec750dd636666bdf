use Rattle.script_form.proofs.OneWay.{read_again}
use Rattle.script_form.proofs.laws.scripts_are_read_again.Goals as goal

pub returns : goal.returns
returns c = read_again
