-- The replies to a seat over a trace, by the history that the trace is of.
use Rattle.std.proofs.Common.{◌≡◌, ℕ, ◌==◌, List, [], ◌∷◌, ◌++◌, map, length, Bool, true, false, cond, refl, sym, ap, ◌∙◌, arith}
use Rattle.std.proofs.lemmas.List.{append_assoc}
use Rattle.std.proofs.lemmas.Bool.Decides.{nat_tests}
use Rattle.portal_model.specs.declared.entry.Entry.{Entry}
use Rattle.portal_model.specs.declared.reply.Reply.{Reply}
use Rattle.portal_model.specs.History.{Legal, makes, replies, run}
use Rattle.portal_model.specs.Seated.{exchange, exchanges}
use Rattle.portal_model.specs.State.{State}
use Rattle.portal_model.specs.Step.{after, reply_at}
use Rattle.app_world.specs.Effect as effect
use Rattle.app_world.specs.Effect.{Effect}
use Rattle.app_world.specs.TraceItem as item
use Rattle.app_world.specs.TraceItem.{TraceItem, item_of}
use Rattle.app_world.specs.World.{items, items_of, own_of, touch, trace}
use Rattle.app_world.proofs.WorldLaws.{replies_of_trace}
use Rattle.connection_laws.specs.OwnPlaces.{at_seat, own_seats, replies_to}
use Rattle.connection_laws.specs.Served.{replied}

-- ---- the seats of what an application makes

abbrev pub seats_made : List ℕ → State → List Entry → List ℕ
seats_made app s [] = []
seats_made app s (e ∷ es) = cond (makes app s e) (e.seat ∷ []) [] ++ seats_made app (after s e) es

pub own_seats-append : (xs ys : List TraceItem) → own_seats (xs ++ ys) ≡ own_seats xs ++ own_seats ys
own_seats-append [] ys = refl
own_seats-append (item.Own own ∷ xs) ys = ap (λ (ns : List ℕ). own.seat ∷ ns) (own_seats-append xs ys)
own_seats-append (item.Gained d rights content ∷ xs) ys = own_seats-append xs ys
own_seats-append (item.Lost id rights ∷ xs) ys = own_seats-append xs ys
own_seats-append (item.Gone id ∷ xs) ys = own_seats-append xs ys
own_seats-append (item.Bytes path generation content ∷ xs) ys = own_seats-append xs ys
own_seats-append (item.Turned path generation content ∷ xs) ys = own_seats-append xs ys

effects_none : (fs : List Effect) → own_seats (map item_of fs) ≡ []
effects_none [] = refl
effects_none (effect.Gained d rights content ∷ fs) = effects_none fs
effects_none (effect.Lost id rights ∷ fs) = effects_none fs
effects_none (effect.Gone id ∷ fs) = effects_none fs
effects_none (effect.Bytes path generation content ∷ fs) = effects_none fs
effects_none (effect.Turned path generation content ∷ fs) = effects_none fs

seats_of_one : (app : List ℕ) (s : State) (e : Entry) (b : Bool) → own_seats (cond b (item.Own (own_of s e) ∷ []) (map item_of (touch app s e))) ≡ cond b (e.seat ∷ []) []
seats_of_one app s e true = refl
seats_of_one app s e false = effects_none (touch app s e)

seats_are : (h : List Entry) (app : List ℕ) (s : State) → own_seats (items app s h) ≡ seats_made app s h
seats_are [] app s = refl
seats_are (e ∷ es) app s =
    own_seats-append (items_of app s e) (items app (after s e) es)
    ∙ (λ i. seats_of_one app s e (makes app s e) i ++ seats_are es app (after s e) i)

-- ---- as many replies, in two parts of a history

seats-append : (app : List ℕ) (h more : List Entry) (s : State) → seats_made app s (h ++ more) ≡ seats_made app s h ++ seats_made app (run s h) more
seats-append app [] more s = refl
seats-append app (e ∷ es) more s =
    let front : List ℕ = cond (makes app s e) (e.seat ∷ []) [] in
    ap (λ (ns : List ℕ). front ++ ns) (seats-append app es more (after s e)) ∙ sym (append_assoc front (seats_made app (after s e) es) (seats_made app (run (after s e) es) more))

replies-append : (app : List ℕ) (h more : List Entry) (s : State) → replies app s (h ++ more) ≡ replies app s h ++ replies app (run s h) more
replies-append app [] more s = refl
replies-append app (e ∷ es) more s =
    let front : List Reply = cond (makes app s e) (reply_at s e ∷ []) [] in
    ap (λ (rs : List Reply). front ++ rs) (replies-append app es more (after s e)) ∙ sym (append_assoc front (replies app (after s e) es) (replies app (run (after s e) es) more))

as_many : (app : List ℕ) (h : List Entry) (s : State) → length (seats_made app s h) ≡ length (replies app s h)
as_many app [] s = refl
as_many app (e ∷ es) s = by_test (makes app s e) (as_many app es (after s e))
  where
    by_test : (b : Bool) → length (seats_made app (after s e) es) ≡ length (replies app (after s e) es)
        → length (cond b (e.seat ∷ []) [] ++ seats_made app (after s e) es) ≡ length (cond b (reply_at s e ∷ []) [] ++ replies app (after s e) es)
    by_test true more = grind (arith, more)
    by_test false more = more

pub at_seat-append : (seat : ℕ) (ns : List ℕ) (rs : List Reply) (ms : List ℕ) (qs : List Reply) → length ns ≡ length rs → at_seat seat (ns ++ ms) (rs ++ qs) ≡ at_seat seat ns rs ++ at_seat seat ms qs
at_seat-append seat [] [] ms qs e = refl
at_seat-append seat [] (r ∷ rs) ms qs e = absurd (omega arith)
at_seat-append seat (n ∷ ns) [] ms qs e = absurd (omega arith)
at_seat-append seat (n ∷ ns) (r ∷ rs) ms qs e = by_test (n == seat) (at_seat-append seat ns rs ms qs (omega arith))
  where
    by_test : (b : Bool) → at_seat seat (ns ++ ms) (rs ++ qs) ≡ at_seat seat ns rs ++ at_seat seat ms qs
        → cond b (r ∷ at_seat seat (ns ++ ms) (rs ++ qs)) (at_seat seat (ns ++ ms) (rs ++ qs)) ≡ cond b (r ∷ at_seat seat ns rs) (at_seat seat ns rs) ++ at_seat seat ms qs
    by_test true more = ap (λ (z : List Reply). r ∷ z) more
    by_test false more = more

-- ---- a seat at which the application alone asks

-- each entry of the seat is the application's
abbrev pub AllMade : List ℕ → ℕ → State → List Entry → Type 0
AllMade app seat s [] = Unit {0}
AllMade app seat s (e ∷ es) = (e.seat ≡ seat → makes app s e ≡ true) × AllMade app seat (after s e) es

same_seat : (n seat : ℕ) → (n == seat) ≡ true → n ≡ seat
same_seat n seat e = grind (arith, nat_tests)

made_are : (app : List ℕ) (seat : ℕ) (h : List Entry) (s : State) → AllMade app seat s h → at_seat seat (seats_made app s h) (replies app s h) ≡ replied (exchanges seat s h)
made_are app seat [] s k = refl
made_are app seat (e ∷ es) s k = by_both (makes app s e) (e.seat == seat) (made_are app seat es (after s e) k.1) refl (λ own. k.0 (same_seat e.seat seat own))
  where
    kept_so : (o : Bool) → cond o (reply_at s e ∷ replied (exchanges seat (after s e) es)) (replied (exchanges seat (after s e) es)) ≡ replied (cond o (exchange s e ∷ []) [] ++ exchanges seat (after s e) es)
    kept_so true = refl
    kept_so false = refl

    by_both : (m o : Bool) → at_seat seat (seats_made app (after s e) es) (replies app (after s e) es) ≡ replied (exchanges seat (after s e) es) → (e.seat == seat) ≡ o → (o ≡ true → m ≡ true)
        → at_seat seat (cond m (e.seat ∷ []) [] ++ seats_made app (after s e) es) (cond m (reply_at s e ∷ []) [] ++ replies app (after s e) es) ≡ replied (cond o (exchange s e ∷ []) [] ++ exchanges seat (after s e) es)
    by_both true o more own h = (λ i. cond (own i) (reply_at s e ∷ more i) (more i)) ∙ kept_so o
    by_both false true more own h = let x : false ≡ true = h refl in cc
    by_both false false more own h = more

-- what the steps reply to a seat grows by the replies to its own entries
pub steps-grow : (app : List ℕ) (seat : ℕ) (h more : List Entry) (s : State) → AllMade app seat (run s h) more → at_seat seat (seats_made app s (h ++ more)) (replies app s (h ++ more)) ≡ at_seat seat (seats_made app s h) (replies app s h) ++ replied (exchanges seat (run s h) more)
steps-grow app seat h more s made =
    (λ i. at_seat seat (seats-append app h more s i) (replies-append app h more s i))
    ∙ (at_seat-append seat (seats_made app s h) (replies app s h) (seats_made app (run s h) more) (replies app (run s h) more) (as_many app h s)
    ∙ ap (λ (rs : List Reply). at_seat seat (seats_made app s h) (replies app s h) ++ rs) (made_are app seat more (run s h) made))

-- ---- what the own machine replies to a seat

module _ (app : List ℕ) (seat : ℕ) (s : State) (told : s.told ≡ true) where
  replies_are : (h : List Entry) → Legal s h → replies_to seat (trace app s h) ≡ at_seat seat (seats_made app s h) (replies app s h)
  replies_are h l = λ i. at_seat seat (seats_are h app s i) (sym (replies_of_trace h app s told l.opening l.lawful) i)

  -- grows by the replies to its own entries
  pub replies-grow : (h more : List Entry) → Legal s h → Legal s (h ++ more) → AllMade app seat (run s h) more → replies_to seat (trace app s (h ++ more)) ≡ replies_to seat (trace app s h) ++ replied (exchanges seat (run s h) more)
  replies-grow h more l whole made =
      replies_are (h ++ more) whole
      ∙ (steps-grow app seat h more s made
      ∙ ap (λ (rs : List Reply). rs ++ replied (exchanges seat (run s h) more)) (sym (replies_are h l)))
