use Rattle.app_world.proofs.ViewLaws.{view-added, view-alike, view-granted}
use Rattle.app_world.proofs.laws.views_are_framed.Goals as goal

pub returns : goal.returns
returns c = record { alike = view-alike; granted = view-granted; added = view-added }
