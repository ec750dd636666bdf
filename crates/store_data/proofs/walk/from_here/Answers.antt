use Rattle.std.proofs.Common.{refl}
use Rattle.store_data.proofs.walk.from_here.Goals as goal

pub returns : goal.returns
returns c passed at h = record { counted = refl; phase = h.phase }
