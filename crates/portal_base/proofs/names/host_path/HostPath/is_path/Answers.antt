use Rattle.std.proofs.Common.{sym}
use Rattle.portal_base.proofs.RefusedNames.{broken_path}
use Rattle.portal_base.proofs.names.host_path.HostPath.is_path.Goals as goal

pub returns-in-Some : goal.returns-in-Some
returns-in-Some c = sym (broken_path c.args.text.now c.in-Some.field-0 c.in-Some.ensures.some)
