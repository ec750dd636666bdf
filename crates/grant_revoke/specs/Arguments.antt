-- Why a text names no application.
use Rattle.std.specs.Prelude.{◌≡◌, ℕ, List, false}
use Rattle.portal_base.specs.Names.{is_app_name}
use Rattle.grant_revoke.specs.declared.plan.RightsError.{RightsError}
use Rattle.grant_revoke.specs.declared.plan.RightsError.TheVariants.{NotFound, NotAllowed, InvalidArgument, Memory}

-- it is none, or there was no memory for it
abbrev pub RefusesName : List ℕ → RightsError → Type 0
RefusesName text NotFound = ⊥
RefusesName text NotAllowed = ⊥
RefusesName text InvalidArgument = is_app_name text ≡ false
RefusesName text Memory = Unit {0}
