use Rattle.portal_model.proofs.SaveLawsHold.{renames-save}
use Rattle.portal_model.proofs.save_laws.renames_save.Goals as goal

pub returns : goal.returns
returns c = renames-save
