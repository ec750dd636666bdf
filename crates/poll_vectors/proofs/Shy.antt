-- A desk that is busy by itself.
use Rattle.std.proofs.Common.{◌≡◌, refl, sym, subst}
use Rattle.portal_desk.specs.Trying.{IsPutOff}
use Rattle.portal_model.specs.declared.request.Request.{Request}
use Rattle.portal_model.specs.Seated.{Seated}
use Rattle.session.proofs.Grew.{moved_none}

-- nothing was asked
pub put_off_here : (a b : Seated) (request : Request) → b ≡ a → IsPutOff a request request b
put_off_here a b request same =
    subst (λ (z : Seated). IsPutOff a request request z) (sym same) (record { moved = moved_none a; mine = refl; refusals = refl; handed_back = refl })
