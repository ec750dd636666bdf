use Rattle.portal_model.proofs.SaveExampleProofs.{saving}
use Rattle.portal_model.proofs.save_examples.a_file_is_saved_by_rename.Goals as goal

pub returns : goal.returns
returns c = saving
