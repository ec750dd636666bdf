use Rattle.std.proofs.Common.{arith}
use Rattle.store_data.proofs.walk.passing.Goals as goal

pub returns : goal.returns
returns c passed at h = let counted = h.counted in let phase = h.phase in record { counted = omega (arith, c.saturating_add.ensures); phase = omega arith }
