-- What the entries of others tell an application.
use Rattle.file_laws.specs.Touches.{TouchesAreOfWhatIsHeld}
use Rattle.file_laws.proofs.AddedLive.{additions-told}
use Rattle.file_laws.proofs.BytesTold.{nodes-told}
use Rattle.file_laws.proofs.RightsTouched.{documents-told, nothing-told}

pub touches : TouchesAreOfWhatIsHeld
touches = record { refused = nothing-told; nodes = nodes-told; documents = λ app s seat request given e. documents-told app s seat given request e; additions = additions-told }
