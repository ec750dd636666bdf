-- Words that an addition drew are the first that were to come.
use Rattle.std.proofs.Common.{◌≡◌, ℕ, List, [], ◌∷◌, Option}
use Rattle.add_calls.specs.Placing.{Drew, HasDrawn}
use Rattle.portal_steps.specs.Devices.{Drawn}

pub drawn-drew : (words : List ℕ) (old new : Option (List ℕ)) → Drew old words new → Drawn old words new
drawn-drew [] old new k = k
drawn-drew (word ∷ words) old new k = (k.0, k.1, drawn-drew words k.0 new k.2)

pub has-drawn-none : (old new : Option (List ℕ)) → new ≡ old → HasDrawn old new
has-drawn-none old new e = ([], e)
