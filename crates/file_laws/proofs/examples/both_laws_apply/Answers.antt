use Rattle.file_laws.proofs.OpenExampleProofs.{apply}
use Rattle.file_laws.proofs.examples.both_laws_apply.Goals as goal

pub returns : goal.returns
returns c = apply
