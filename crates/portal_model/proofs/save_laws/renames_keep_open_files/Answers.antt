use Rattle.portal_model.proofs.SaveLawsHold.{renames-keep}
use Rattle.portal_model.proofs.save_laws.renames_keep_open_files.Goals as goal

pub returns : goal.returns
returns c = renames-keep
