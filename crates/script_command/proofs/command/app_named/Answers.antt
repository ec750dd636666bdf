use Rattle.std.proofs.Common.{◌≡◌, false, subst}
use Rattle.portal_base.proofs.RefusedNames.{broken_app}
use Rattle.portal_base.specs.declared.names.NameError.{NameError}
use Rattle.portal_base.specs.NameErrors.{RefusesApp}
use Rattle.portal_base.specs.Names.{is_app_name}
use Rattle.script_command.proofs.command.app_named.Goals as goal

pub unreachable-requires : goal.unreachable-requires
unreachable-requires c =
    let name = c.args.name.now in
    let broken : is_app_name name ≡ false = broken_app name c.in-Err-BadName.field-0-0 (subst (λ (e : NameError). RefusesApp name e) c.in-Err-BadName.field-0-is (c.in-Err-BadName.ensures.bad)) in
    let is = c.requires in
    cc (broken, is)
