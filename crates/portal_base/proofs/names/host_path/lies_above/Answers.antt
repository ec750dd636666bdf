use Rattle.std.proofs.Common.{arith, sym}
use Rattle.portal_base.proofs.PathsAbove.{above_next, above_begins, above_longer}
use Rattle.portal_base.proofs.names.host_path.lies_above.Goals as goal
use Rattle.portal_base.proofs.names.host_path.lies_above.Goals.{then-below-path, else-below-path}

pub returns-then-starts_with : goal.returns-then-starts_with
returns-then-starts_with c = elim c.if-below-path.branch [ then-below-path w ↦ sym (above_next c.args.path.now c.args.below.now (grind arith) (omega arith)) | else-below-path w ↦ grind arith ]

pub returns-else-starts_with : goal.returns-else-starts_with
returns-else-starts_with c = elim c.if-below-path.branch [ then-below-path w ↦ grind (arith, above_begins c.args.path.now c.args.below.now) | else-below-path w ↦ grind (arith, above_longer c.args.path.now c.args.below.now) ]
