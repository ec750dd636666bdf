use Rattle.portal_base.proofs.RefusedNames.{broken_path}
use Rattle.portal_load.proofs.Names.{file_path-is_host_path}
use Rattle.portal_load.specs.Lines.{file_path}
use Rattle.portal_load.proofs.ahead.file_path.Goals as goal

pub unreachable-requires : goal.unreachable-requires
unreachable-requires c =
    let refused = rw c.in-Err-BadName.field-0-is at c.in-Err-BadName.ensures.bad in
    let bad = broken_path (file_path c.args.number) c.in-Err-BadName.field-0-0 refused in
    absurd (cc (bad, file_path-is_host_path c.args.number c.requires))
