-- The names in a valid state.
use Rattle.std.proofs.Common.{◌≡◌, ℕ, List, [], ◌∷◌, true, refl, arith}
use Rattle.std.specs.List.{list_all, list_any}
use Rattle.portal_base.specs.Names.{is_same, is_app_name}
use Rattle.portal_model.specs.declared.state.Triple.{Triple}
use Rattle.portal_model.specs.State.{State}
use Rattle.portal_model.specs.Valid.{Valid, is_placed}
use Rattle.portal_model.proofs.ListLookups.{is_same-eq}

-- an application that is numbered has a name
numbered_name : (names : List (List ℕ)) (app : List ℕ) → list_any (is_same app) names ≡ true → list_all is_app_name names ≡ true → is_app_name app ≡ true
numbered_name [] app h k = cc
numbered_name (name ∷ names) app h k = grind (arith, is_same-eq app name, numbered_name names app)

placed_names : (s : State) (ts : List Triple) → list_all is_app_name s.applications ≡ true → list_all (is_placed s) ts ≡ true → list_all (λ (t : Triple). is_app_name t.app) ts ≡ true
placed_names s [] k h = refl
placed_names s (t ∷ ts) k h = grind (arith, numbered_name s.applications t.app, placed_names s ts)

-- whoever holds a right has a name
pub rights_named : (s : State) → Valid s → list_all (λ (t : Triple). is_app_name t.app) s.rights ≡ true
rights_named s v = placed_names s s.rights v.names v.rights_placed
