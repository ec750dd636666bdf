use Rattle.std.proofs.Common.{sym}
use Rattle.portal_base.proofs.RefusedNames.{broken_app}
use Rattle.portal_base.proofs.names.app_id.AppId.is_name.Goals as goal

pub returns-in-Some : goal.returns-in-Some
returns-in-Some c = sym (broken_app c.args.text.now c.in-Some.field-0 c.in-Some.ensures.some)
