-- Why a text is no name.
use Rattle.std.specs.Prelude.{ℕ, List}
use Rattle.portal_base.specs.declared.names.NameError.{NameError}
use Rattle.portal_base.specs.declared.names.NameError.TheVariants.{BadName, Memory}
use Rattle.portal_base.specs.Names.{IsFirstBreak, has_app_form, app_limit, has_path_form, path_limit}

-- the text is no name of an application, and breaks the rule first at the place that is told
abbrev pub RefusesApp : List ℕ → NameError → Type 0
RefusesApp t (BadName at) = IsFirstBreak has_app_form app_limit t at
RefusesApp t Memory = Unit {0}

-- the text is no path, and breaks the rule first at the place that is told
abbrev pub RefusesPath : List ℕ → NameError → Type 0
RefusesPath t (BadName at) = IsFirstBreak has_path_form path_limit t at
RefusesPath t Memory = Unit {0}
