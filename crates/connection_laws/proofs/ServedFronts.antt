-- Over any tree: what the own machine of an application replies to the front of a trace comes first of what it replies to the whole.
use Rattle.std.proofs.Common.{◌≡◌, ℕ, suc, List, [], ◌∷◌, ◌++◌, length, refl, ap, ◌∙◌}
use Rattle.portal_model.specs.declared.reply.Reply.{Reply}
use Rattle.app_world.specs.View.{AppView}
use Rattle.served_world.specs.ServedItem as item
use Rattle.served_world.specs.ServedItem.{ServedItem}
use Rattle.served_world.specs.ServedWorld.{ServedTrace, served_replies, served_run, served_step, view_after}
use Rattle.connection_laws.specs.OwnPlaces.{at_seat}
use Rattle.connection_laws.specs.ServedBytes.{served_seats, served_to}
use Rattle.connection_laws.specs.ServedSoFar.{ServedGoesOn}
use Rattle.connection_laws.proofs.Fronts.{BeginsSo, more_first}
use Rattle.connection_laws.proofs.Places.{at_seat-append}
use Rattle.connection_laws.proofs.ServedPlaces.{served_seats-append}

machine_first : (xs ys : List ServedItem) (v : AppView) → BeginsSo (served_replies v (xs ++ ys)) (served_replies v xs)
machine_first [] ys v = (served_replies v ys, refl)
machine_first (item.Own own ∷ xs) ys v = more_first (served_step v own).1 _ _ (machine_first xs ys (served_step v own).0)
machine_first (item.Gained d rights ∷ xs) ys v = machine_first xs ys (view_after v (item.Gained d rights))
machine_first (item.Lost id rights ∷ xs) ys v = machine_first xs ys (view_after v (item.Lost id rights))
machine_first (item.Gone id ∷ xs) ys v = machine_first xs ys (view_after v (item.Gone id))

-- one reply to each own request
one_each : (xs : List ServedItem) (v : AppView) → length (served_seats xs) ≡ length (served_replies v xs)
one_each [] v = refl
one_each (item.Own own ∷ xs) v = ap suc (one_each xs (served_step v own).0)
one_each (item.Gained d rights ∷ xs) v = one_each xs (view_after v (item.Gained d rights))
one_each (item.Lost id rights ∷ xs) v = one_each xs (view_after v (item.Lost id rights))
one_each (item.Gone id ∷ xs) v = one_each xs (view_after v (item.Gone id))

pub served-first : (seat : ℕ) (whole front : ServedTrace) → ServedGoesOn whole front → (more : List Reply) × (served_to seat whole ≡ served_to seat front ++ more)
served-first seat whole front (opening, (more, items)) =
    let first = machine_first front.items more front.opening in (
      at_seat seat (served_seats more) first.0,
      (λ i. at_seat seat (served_seats (items i)) (served_replies (opening i) (items i)))
          ∙ ((λ i. at_seat seat (served_seats-append front.items more i) (first.1 i))
          ∙ at_seat-append seat (served_seats front.items) (served_run front) (served_seats more) first.0 (one_each front.items front.opening)),
    )
