-- The replies to a seat over a trace of any tree, by the history that the trace is of.
use Rattle.std.proofs.Common.{◌≡◌, ℕ, ◌==◌, List, [], ◌∷◌, ◌++◌, Bool, true, false, cond, refl, sym, ap, ◌∙◌}
use Rattle.std.specs.List.{flat_map}
use Rattle.std.proofs.lemmas.List.{map-append}
use Rattle.portal_model.specs.declared.entry.Entry.{Entry}
use Rattle.portal_model.specs.declared.reply.Reply.{Reply}
use Rattle.portal_model.specs.History.{Legal, makes, replies, run}
use Rattle.portal_model.specs.Seated.{exchanges}
use Rattle.portal_model.specs.State.{State}
use Rattle.portal_model.specs.Step.{after}
use Rattle.app_world.specs.Effect as effect
use Rattle.app_world.specs.Effect.{Effect}
use Rattle.app_world.specs.World.{touch}
use Rattle.served_world.specs.Laws.{but_content}
use Rattle.served_world.specs.ServedItem as item
use Rattle.served_world.specs.ServedItem.{ServedItem, items_of_effect}
use Rattle.served_world.specs.ServedOwn.{served_own}
use Rattle.served_world.specs.ServedWorld.{requests_in, served_items, served_items_of, served_run, served_trace}
use Rattle.served_world.proofs.AlikeReplies.{all-but}
use Rattle.served_world.proofs.ServedHistories.{isolated}
use Rattle.connection_laws.specs.OwnPlaces.{at_seat}
use Rattle.connection_laws.specs.Served.{replied}
use Rattle.connection_laws.specs.ServedBytes.{but_contents, served_seats, served_to}
use Rattle.connection_laws.proofs.Places.{AllMade, seats_made, steps-grow}

-- ---- the seats of the trace are those of what the application makes

pub served_seats-append : (xs ys : List ServedItem) → served_seats (xs ++ ys) ≡ served_seats xs ++ served_seats ys
served_seats-append [] ys = refl
served_seats-append (item.Own own ∷ xs) ys = ap (λ (ns : List ℕ). own.seat ∷ ns) (served_seats-append xs ys)
served_seats-append (item.Gained d rights ∷ xs) ys = served_seats-append xs ys
served_seats-append (item.Lost id rights ∷ xs) ys = served_seats-append xs ys
served_seats-append (item.Gone id ∷ xs) ys = served_seats-append xs ys

effects_none : (fs : List Effect) → served_seats (flat_map items_of_effect fs) ≡ []
effects_none [] = refl
effects_none (effect.Gained d rights content ∷ fs) = effects_none fs
effects_none (effect.Lost id rights ∷ fs) = effects_none fs
effects_none (effect.Gone id ∷ fs) = effects_none fs
effects_none (effect.Bytes path generation content ∷ fs) = effects_none fs
effects_none (effect.Turned path generation content ∷ fs) = effects_none fs

seats_of_one : (app : List ℕ) (s : State) (e : Entry) (b : Bool) → served_seats (cond b (item.Own (served_own s e) ∷ []) (flat_map items_of_effect (touch app s e))) ≡ cond b (e.seat ∷ []) []
seats_of_one app s e true = refl
seats_of_one app s e false = effects_none (touch app s e)

seats_are : (h : List Entry) (app : List ℕ) (s : State) → served_seats (served_items app s h) ≡ seats_made app s h
seats_are [] app s = refl
seats_are (e ∷ es) app s =
    served_seats-append (served_items_of app s e) (served_items app (after s e) es)
    ∙ (λ i. seats_of_one app s e (makes app s e) i ++ seats_are es app (after s e) i)

-- ---- of a seat, but for contents

at_seat-but : (seat : ℕ) (ns : List ℕ) (rs : List Reply) → but_contents (at_seat seat ns rs) ≡ at_seat seat ns (but_contents rs)
at_seat-but seat [] rs = refl
at_seat-but seat (n ∷ ns) [] = refl
at_seat-but seat (n ∷ ns) (r ∷ rs) = by_test (n == seat) (at_seat-but seat ns rs)
  where
    by_test : (b : Bool) → but_contents (at_seat seat ns rs) ≡ at_seat seat ns (but_contents rs)
        → but_contents (cond b (r ∷ at_seat seat ns rs) (at_seat seat ns rs)) ≡ cond b (but_content r ∷ at_seat seat ns (but_contents rs)) (at_seat seat ns (but_contents rs))
    by_test true more = ap (λ (z : List Reply). but_content r ∷ z) more
    by_test false more = more

module _ (app : List ℕ) (seat : ℕ) (s : State) where
  -- to a seat the machine replies as the steps do
  as_stepped : (h : List Entry) → Legal s h → but_contents (served_to seat (served_trace app s h)) ≡ but_contents (at_seat seat (seats_made app s h) (replies app s h))
  as_stepped h l =
      at_seat-but seat (served_seats (served_items app s h)) (served_run (served_trace app s h))
      ∙ ((λ i. at_seat seat (seats_are h app s i) (sym (all-but (requests_in (served_trace app s h)) (served_run (served_trace app s h)) (replies app s h) (isolated.stepped app s h l)) i))
      ∙ sym (at_seat-but seat (seats_made app s h) (replies app s h)))

  -- what it replies grows by the replies to the seat's own entries
  pub served-grow : (h more : List Entry) → Legal s h → Legal s (h ++ more) → AllMade app seat (run s h) more
      → but_contents (served_to seat (served_trace app s (h ++ more))) ≡ but_contents (served_to seat (served_trace app s h)) ++ but_contents (replied (exchanges seat (run s h) more))
  served-grow h more l whole made =
      as_stepped (h ++ more) whole
      ∙ (ap but_contents (steps-grow app seat h more s made)
      ∙ (map-append but_content (at_seat seat (seats_made app s h) (replies app s h)) (replied (exchanges seat (run s h) more))
      ∙ ap (λ (rs : List Reply). rs ++ but_contents (replied (exchanges seat (run s h) more))) (sym (as_stepped h l))))
