use Rattle.app_world.proofs.ComputedExampleProofs.{given_by_listing}
use Rattle.app_world.proofs.examples.rights_given_by_listing.Goals as goal

pub returns : goal.returns
returns c = given_by_listing
