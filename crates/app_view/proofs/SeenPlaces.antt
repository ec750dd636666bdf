-- Where something is seen at a place.
use Rattle.std.proofs.Common.{◌≡◌, Bool, Option, Some, None, is_some, refl, sym, ap, ◌∙◌}
use Rattle.std.specs.Option.{option_map}
use Rattle.portal_base.specs.declared.who.Who.{Who}
use Rattle.portal_model.specs.declared.naming.Naming.{Naming}
use Rattle.portal_model.specs.declared.place.Place.{Place}
use Rattle.portal_model.specs.declared.temporary.Temp.{Temp}
use Rattle.portal_model.specs.Place.{Sight, sight_of_place}
use Rattle.portal_model.specs.State.{State}

some-map : {X Y : Type 0} (f : X → Y) (o : Option X) → is_some (option_map f o) ≡ is_some o
some-map f None = refl
some-map f (Some x) = refl

pub seen-at : {X : Type 0} (s : State) (who : Who) (naming : Option Naming) (temp : Option Temp) (p q : Place) (f : X → Sight) (r : Option X) (b : Bool) → p ≡ q → sight_of_place s who naming temp q ≡ option_map f r → b ≡ is_some r →
    b ≡ is_some (sight_of_place s who naming temp p)
seen-at s who naming temp p q f r b e h g =
    g ∙ (sym (some-map f r) ∙ (ap (λ (o : Option Sight). is_some o) (sym h) ∙ ap (λ (x : Place). is_some (sight_of_place s who naming temp x)) (sym e)))
