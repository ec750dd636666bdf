use Rattle.portal_model.proofs.OpeningLaws.{openings-valid}
use Rattle.portal_model.proofs.laws.sound_openings_are_valid.Goals as goal

pub returns : goal.returns
returns c = openings-valid
