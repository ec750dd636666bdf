use Rattle.script_form.proofs.OpeningFacts.{valid_result}
use Rattle.script_form.proofs.opening.opening_of.Goals as goal

pub returns-clause-valid : goal.returns-clause-valid
returns-clause-valid c = λ holds. valid_result c.args.limits c.args.script.now.lines _ c.requires c.state_of.ensures holds
