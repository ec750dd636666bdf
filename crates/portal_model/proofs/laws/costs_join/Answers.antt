use Rattle.portal_model.proofs.Histories.{cost-append}
use Rattle.portal_model.proofs.laws.costs_join.Goals as goal

pub returns : goal.returns
returns c = cost-append
