use Rattle.std.proofs.Common.{rules, ◌≡◌, ℕ, List, false, subst}
use Rattle.portal_base.proofs.RefusedNames.{broken_app}
use Rattle.portal_base.specs.declared.names.NameError.{NameError}
use Rattle.portal_base.specs.NameErrors.{RefusesApp}
use Rattle.portal_base.specs.Names.{is_app_name}
use Rattle.serve_words.proofs.words.app_of.Goals as goal

pub returns-in_ok-why-in-Err-BadName-clause-faulty : goal.returns-in_ok-why-in-Err-BadName-clause-faulty
returns-in_ok-why-in-Err-BadName-clause-faulty c = λ told.
    let bytes = c.as_bytes.result.now in
    let broken : is_app_name bytes ≡ false = broken_app bytes c.in-Err-BadName.field-0-0 (subst (λ (e : NameError). RefusesApp bytes e) c.in-Err-BadName.field-0-is (c.in-Err-BadName.ensures.bad)) in
    let same : bytes ≡ c.args.name.now = search rules in
    subst (λ (b : List ℕ). is_app_name b ≡ false) same broken
