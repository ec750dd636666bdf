use Rattle.connection_laws.proofs.ReadExampleProofs.{shown}
use Rattle.connection_laws.proofs.examples.reads_show_contents.Goals as goal

pub returns : goal.returns
returns c = shown
