use Rattle.portal_base.proofs.RefusedNames.{broken_app}
use Rattle.record_keeper.proofs.naming.app_of.Goals as goal

pub unreachable-requires : goal.unreachable-requires
unreachable-requires c =
    let refused = rw c.in-Err-BadName.field-0-is at c.in-Err-BadName.ensures.bad in
    let bad = broken_app c.args.name.now c.in-Err-BadName.field-0-0 refused in
    absurd (cc (bad, c.requires))
