-- Replies so far are those of the trace so far.
use Rattle.std.proofs.Common.{◌≡◌, ℕ, ◌-◌, List, ◌++◌, drop, take, length, sym, ap, ◌∙◌}
use Rattle.portal_model.specs.Seated.{Exchange}
use Rattle.app_world.specs.World.{Trace}
use Rattle.session.specs.declared.act.Client.{Client}
use Rattle.connection_laws.specs.OwnPlaces.{replies_to}
use Rattle.connection_laws.specs.Served.{IsOf, Service, replied, replies_seen, trace_seen}
use Rattle.connection_laws.specs.SoFar.{GoesOn, RepliesSoFar, replies_within}
use Rattle.connection_laws.proofs.Fronts.{behind-front, replies-first}
use Rattle.connection_laws.proofs.Replies.{new-replies, same-seat}

-- of one connection: those that the front has behind the former ones
within : (app : List ℕ) (c : Client) (x : Service c) (of : IsOf app c x) (front : Trace) (made : List Exchange) → GoesOn (trace_seen app x.after.seated) front → x.after.seated.mine ≡ x.before.seated.mine ++ made
    → take (replies_within app c x front) (replied made) ≡ drop (length (replies_seen app x.before.seated)) (replies_to x.before.seated.seat front)
within app c x of front made goes e =
    let first = replies-first x.before.seated.seat (trace_seen app x.after.seated) front goes in
    behind-front (replies_seen app x.before.seated) (replied made) (replies_to x.before.seated.seat front) first.0
    (sym (new-replies app c x of made e) ∙ (ap (λ (n : ℕ). replies_to n (trace_seen app x.after.seated)) (same-seat app c x of) ∙ first.1))

pub replies-so-far : RepliesSoFar
replies-so-far app c x y front made others one e f =
    (λ i. take (sym same_count i) (replied others))
    ∙ (within app c y one.second front others one.second_goes f
    ∙ ((λ i. drop (one.places i) (replies_to (one.seat i) front))
    ∙ sym (within app c x one.first front made one.first_goes e)))
  where
    same_count : replies_within app c y front ≡ replies_within app c x front
    same_count = λ i. length (replies_to (one.seat i) front) - one.places i
