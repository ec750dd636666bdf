-- The seats of the own requests in a blinded trace are those in the trace; so the machine replies the same to each.
use Rattle.std.proofs.Common.{◌≡◌, ℕ, List, [], ◌∷◌, ◌++◌, map, Bool, true, false, cond, refl, sym, ap, ◌∙◌}
use Rattle.portal_model.specs.declared.entry.Entry.{Entry}
use Rattle.portal_model.specs.History.{makes}
use Rattle.portal_desk.specs.Knowing.{Known}
use Rattle.portal_model.specs.Seated.{Seated}
use Rattle.portal_model.specs.State.{State}
use Rattle.portal_model.specs.Step.{after}
use Rattle.app_world.specs.Effect as effect
use Rattle.app_world.specs.Effect.{Effect}
use Rattle.app_world.specs.Own.{Own}
use Rattle.app_world.specs.TraceItem as item
use Rattle.app_world.specs.TraceItem.{TraceItem, item_of}
use Rattle.app_world.specs.View.{view}
use Rattle.app_world.specs.World.{app_run, items, own_of, touch, trace}
use Rattle.app_world.proofs.WorldLaws.{replies_of_trace}
use Rattle.connection_laws.specs.Blinded.{own_blinded}
use Rattle.connection_laws.specs.BlindedTrace.{blinded_effects, blinded_items, blinded_trace, sights}
use Rattle.connection_laws.specs.OwnPlaces.{at_seat, own_seats, replies_to}
use Rattle.connection_laws.specs.Served.{replies_seen}
use Rattle.connection_laws.specs.Unread.{blinded_seen}
use Rattle.connection_laws.proofs.BlindedTraces.{blind_trace}

-- what others change has no own request
seats-behind : (fs : List Effect) (more : List TraceItem) → own_seats (map item_of fs ++ more) ≡ own_seats more
seats-behind [] more = refl
seats-behind (effect.Gained d rights content ∷ fs) more = seats-behind fs more
seats-behind (effect.Lost id rights ∷ fs) more = seats-behind fs more
seats-behind (effect.Gone id ∷ fs) more = seats-behind fs more
seats-behind (effect.Bytes path generation content ∷ fs) more = seats-behind fs more
seats-behind (effect.Turned path generation content ∷ fs) more = seats-behind fs more

seats-told : (own : Own) (b : Bool) (sights told effects : List Effect) (more rest : List TraceItem) → own_seats more ≡ own_seats rest →
    own_seats (cond b (item.Own (own_blinded own) ∷ map item_of sights) (map item_of told) ++ more) ≡ own_seats (cond b (item.Own own ∷ []) (map item_of effects) ++ rest)
seats-told own true sights told effects more rest e = ap (λ (ns : List ℕ). own.seat ∷ ns) (seats-behind sights more ∙ e)
seats-told own false sights told effects more rest e = seats-behind told more ∙ (e ∙ sym (seats-behind effects rest))

seats-are : (h : List Entry) (app : List ℕ) (s : State) → own_seats (blinded_items app s h) ≡ own_seats (items app s h)
seats-are [] app s = refl
seats-are (e ∷ es) app s =
    seats-told (own_of s e) (makes app s e) (sights (view (after s e) app)) (blinded_effects (view (after s e) app) (touch app s e)) (touch app s e) (blinded_items app (after s e) es) (items app (after s e) es)
    (seats-are es app (after s e))

pub replies-blinded : (app : List ℕ) (d : Seated) → d.opening.told ≡ true → Known d → replies_to d.seat (blinded_seen app d) ≡ replies_seen app d
replies-blinded app d t k =
    let run_same : app_run (blinded_trace app d.opening d.seen) ≡ app_run (trace app d.opening d.seen) =
    sym (blind_trace app d.opening d.seen t k.legal) ∙ replies_of_trace d.seen app d.opening t k.legal.opening k.legal.lawful in
    λ i. at_seat d.seat (seats-are d.seen app d.opening i) (run_same i)
