use Rattle.portal_model.proofs.ValidLaws.{after-Valid, run-Valid}
use Rattle.portal_model.proofs.laws.states_stay_valid.Goals as goal

pub returns : goal.returns
returns c = record { step = after-Valid; run = λ s h v. run-Valid h s v }
