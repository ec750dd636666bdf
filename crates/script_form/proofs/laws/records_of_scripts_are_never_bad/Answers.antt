use Rattle.script_form.proofs.RecordsFacts.{never_bad}
use Rattle.script_form.proofs.laws.records_of_scripts_are_never_bad.Goals as goal

pub returns : goal.returns
returns c = never_bad
