use Rattle.app_world.proofs.WorldLaws.{replies_of_trace}
use Rattle.app_world.proofs.laws.applications_are_isolated.Goals as goal

pub returns : goal.returns
returns c = λ app s h t l. replies_of_trace h app s t l.opening l.lawful
