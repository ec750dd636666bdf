use Rattle.portal_model.proofs.SaveExampleProofs.{not_saved}
use Rattle.portal_model.proofs.save_examples.what_is_not_saved.Goals as goal

pub returns : goal.returns
returns c = not_saved
