use Rattle.portal_model.proofs.Histories.{run-append}
use Rattle.portal_model.proofs.laws.runs_join.Goals as goal

pub returns : goal.returns
returns c = λ s h more. run-append h more s
