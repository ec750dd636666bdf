use Rattle.portal_model.proofs.SaveExampleProofs.{temporaries}
use Rattle.portal_model.proofs.save_examples.temporaries_in_a_folder.Goals as goal

pub returns : goal.returns
returns c = temporaries
