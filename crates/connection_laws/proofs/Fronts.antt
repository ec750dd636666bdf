-- What the own machine of an application replies to the front of a trace comes first of what it replies to the whole; and fronts of lists.
use Rattle.std.proofs.Common.{◌≡◌, ℕ, ◌-◌, List, [], ◌∷◌, ◌++◌, drop, take, length, refl, ap, ◌∙◌, arith}
use Rattle.std.proofs.Math.Seq.{take-append_seam}
use Rattle.portal_model.specs.declared.reply.Reply.{Reply}
use Rattle.app_world.specs.Effect as effect
use Rattle.app_world.specs.Effect.{apply}
use Rattle.app_world.specs.TraceItem as item
use Rattle.app_world.specs.TraceItem.{TraceItem}
use Rattle.app_world.specs.View.{AppView}
use Rattle.app_world.specs.World.{Trace, app_run, app_step, own_replies}
use Rattle.connection_laws.specs.OwnPlaces.{at_seat, own_seats, replies_to}
use Rattle.connection_laws.specs.SoFar.{GoesOn}
use Rattle.connection_laws.proofs.Places.{at_seat-append, own_seats-append}

-- ---- the machine

abbrev pub BeginsSo : List Reply → List Reply → Type 0
BeginsSo whole front = (more : List Reply) × (whole ≡ front ++ more)

pub more_first : (r : Reply) (whole front : List Reply) → BeginsSo whole front → BeginsSo (r ∷ whole) (r ∷ front)
more_first r whole front h = (h.0, ap (λ (z : List Reply). r ∷ z) h.1)

machine_first : (xs ys : List TraceItem) (v : AppView) → BeginsSo (own_replies v (xs ++ ys)) (own_replies v xs)
machine_first [] ys v = (own_replies v ys, refl)
machine_first (item.Own own ∷ xs) ys v = more_first (app_step v own).1 _ _ (machine_first xs ys (app_step v own).0)
machine_first (item.Gained d rights content ∷ xs) ys v = machine_first xs ys (apply v (effect.Gained d rights content))
machine_first (item.Lost id rights ∷ xs) ys v = machine_first xs ys (apply v (effect.Lost id rights))
machine_first (item.Gone id ∷ xs) ys v = machine_first xs ys (apply v (effect.Gone id))
machine_first (item.Bytes path generation content ∷ xs) ys v = machine_first xs ys (apply v (effect.Bytes path generation content))
machine_first (item.Turned path generation content ∷ xs) ys v = machine_first xs ys (apply v (effect.Turned path generation content))

-- one reply to each own request
one_each : (xs : List TraceItem) (v : AppView) → length (own_seats xs) ≡ length (own_replies v xs)
one_each [] v = refl
one_each (item.Own own ∷ xs) v = let more = one_each xs (app_step v own).0 in grind (arith, more)
one_each (item.Gained d rights content ∷ xs) v = one_each xs (apply v (effect.Gained d rights content))
one_each (item.Lost id rights ∷ xs) v = one_each xs (apply v (effect.Lost id rights))
one_each (item.Gone id ∷ xs) v = one_each xs (apply v (effect.Gone id))
one_each (item.Bytes path generation content ∷ xs) v = one_each xs (apply v (effect.Bytes path generation content))
one_each (item.Turned path generation content ∷ xs) v = one_each xs (apply v (effect.Turned path generation content))

pub replies-first : (seat : ℕ) (whole front : Trace) → GoesOn whole front → (more : List Reply) × (replies_to seat whole ≡ replies_to seat front ++ more)
replies-first seat whole front (opening, (more, items)) =
    let first = machine_first front.items more front.opening in (
      at_seat seat (own_seats more) first.0,
      (λ i. at_seat seat (own_seats (items i)) (own_replies (opening i) (items i)))
          ∙ ((λ i. at_seat seat (own_seats-append front.items more i) (first.1 i))
          ∙ at_seat-append seat (own_seats front.items) (app_run front) (own_seats more) first.0 (one_each front.items front.opening)),
    )

-- ---- fronts

-- of two fronts of one list: what the second has behind the first
pub behind-front : {X : Type 0} (fs ms cs rest : List X) → fs ++ ms ≡ cs ++ rest → take (length cs - length fs) ms ≡ drop (length fs) cs
behind-front [] ms cs rest e =
    let all : length cs - 0 ≡ length cs = omega arith in
    ap (λ (n : ℕ). take n ms) all ∙ (ap (take (length cs)) e ∙ take-append_seam cs rest)
behind-front (a ∷ fs) ms [] rest e =
    let none : 0 - length (a ∷ fs) ≡ 0 = omega arith in
    ap (λ (n : ℕ). take n ms) none ∙ refl
behind-front (a ∷ fs) ms (c ∷ cs) rest e =
    let tails : fs ++ ms ≡ cs ++ rest = cc in
    let shorter : length (c ∷ cs) - length (a ∷ fs) ≡ length cs - length fs = grind arith in
    ap (λ (n : ℕ). take n ms) shorter ∙ behind-front fs ms cs rest tails
