use Rattle.serve_start.proofs.PathLaw.{paths-tell}
use Rattle.serve_start.proofs.laws.paths_tell.Goals as goal

pub returns : goal.returns
returns c = paths-tell
