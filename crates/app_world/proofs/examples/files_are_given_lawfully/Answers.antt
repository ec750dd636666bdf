use Rattle.app_world.proofs.FileExampleProofs.{given_lawfully}
use Rattle.app_world.proofs.examples.files_are_given_lawfully.Goals as goal

pub returns : goal.returns
returns c = given_lawfully
