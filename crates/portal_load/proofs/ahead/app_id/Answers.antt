use Rattle.std.proofs.Common.{◌∙◌, ap}
use Rattle.portal_base.specs.Names.{is_app_name}
use Rattle.portal_base.proofs.RefusedNames.{broken_app}
use Rattle.portal_load.proofs.Names.{app_name-is_app_name}
use Rattle.portal_load.proofs.ahead.app_id.Goals as goal

pub unreachable-requires : goal.unreachable-requires
unreachable-requires c =
    let refused = rw c.in-Err-BadName.field-0-is at c.in-Err-BadName.ensures.bad in
    let bad = broken_app c.as_bytes.result.now c.in-Err-BadName.field-0-0 refused in
    let same = ap is_app_name (c.as_bytes.ensures.value ∙ c.app_name.ensures) in
    absurd (cc (bad, same, app_name-is_app_name c.args.app))
