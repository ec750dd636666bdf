use Rattle.app_world.proofs.ComputedExampleProofs.{refused_alike}
use Rattle.app_world.proofs.examples.refusal_of_a_foreign_document.Goals as goal

pub returns : goal.returns
returns c = refused_alike
