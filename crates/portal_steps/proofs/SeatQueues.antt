-- The queue of the one connection of a seat, changed in its place.
use Rattle.std.specs.Prelude.{IfOk}
use Rattle.std.proofs.Common.{◌≡◌, Result, ℕ, ◌+◌, ◌<◌, ◌≤◌, ◌==◌, nat_eq, zero, suc, List, [], ◌∷◌, length, map, get_or, set, Bool, true, false, not, cond, ltb, Option, Some, None, option_map, refl, sym, ap, subst, ◌∙◌, arith}
use Rattle.std.specs.List.{AllByRecursion, IsDistinct, find, position, prefix_len}
use Rattle.std.proofs.lemmas.Bool.Decides.{nat_tests}
use Rattle.portal_model.specs.declared.state.Connection.{Connection}
use Rattle.portal_model.specs.Present.{requeued}
use Rattle.portal_model.specs.RecordChanges.{change_first}
use Rattle.portal_model.specs.State.{State, connection_of}
use Rattle.portal_model.specs.Valid.{Valid}
use Rattle.portal_model.proofs.ListLookups.{found_passes, nat_is}
use Rattle.record_keeper.proofs.FirstPassing.{first-changed}
use Rattle.document_calls.specs.Books.{IsQueue, queue_set}
use Rattle.document_calls.specs.Serves.{Serves}
use Rattle.document_calls.specs.declared.served.ServedCall.{ServedCall}
use Rattle.portal_base.specs.declared.memory.WantOfMemory.{WantOfMemory}
use Rattle.portal_model.specs.declared.request.Request.{Request}
use Rattle.portal_model.specs.Step.{bus_of}
use Rattle.portal_steps.specs.Documents.{with_queues}
use Rattle.portal_steps.proofs.Boxes.{same-queues, silent-found}
use Rattle.portal_start.proofs.LoadedRecords.{if_ok}
use Rattle.portal_steps.proofs.Steps.{bus_found}
use Rattle.store_serving.specs.Waiting.{silent}

-- ---- the first that passes a test

module _ {X : Type 0} (test : X → Bool) where
  abbrev place : List X → ℕ
  place xs = prefix_len (λ x. not (test x)) xs

  found-there : (xs : List X) (d : X) → place xs < length xs → find test xs ≡ Some (get_or xs (place xs) d)
  found-there [] d l = absurd (omega arith)
  found-there (x ∷ xs) d l = step (test x) l (found-there xs d)
    where
      step : (b : Bool) → cond (not b) (1 + place xs) 0 < suc (length xs) → (place xs < length xs → find test xs ≡ Some (get_or xs (place xs) d)) →
          cond b (Some x) (find test xs) ≡ Some (get_or (x ∷ xs) (cond (not b) (1 + place xs) 0) d)
      step true l more = refl
      step false l more =
          let e : 1 + place xs ≡ suc (place xs) = omega arith in
          more (omega arith) ∙ ap (λ (n : ℕ). Some (get_or (x ∷ xs) n d)) (sym e)

  some-place : (n l i : ℕ) (b : Bool) → ltb n l ≡ b → Some i ≡ cond b (Some n) None → (i ≡ n) × (n < l)
  some-place n l i true h e = (cc, grind (arith, nat_tests))
  some-place n l i false h e = absurd (cc)

  pub found-first : (xs : List X) (i : ℕ) (v : X) → Some i ≡ position test xs → v ≡ get_or xs i v → find test xs ≡ Some v
  found-first xs i v e h =
      let p = some-place (place xs) (length xs) i (ltb (place xs) (length xs)) refl e in
      found-there xs v p.1 ∙ ap (λ (x : X). Some x) (ap (λ (n : ℕ). get_or xs n v) (sym p.0) ∙ sym h)

  not-there : (xs : List X) → length xs ≤ place xs → find test xs ≡ None
  not-there [] l = refl
  not-there (x ∷ xs) l = step (test x) l (not-there xs)
    where
      step : (b : Bool) → suc (length xs) ≤ cond (not b) (1 + place xs) 0 → (length xs ≤ place xs → find test xs ≡ None) → cond b (Some x) (find test xs) ≡ None
      step true l more = absurd (omega arith)
      step false l more = more (omega arith)

  no-place : (n l : ℕ) (b : Bool) → ltb n l ≡ b → None ≡ cond b (Some n) None → l ≤ n
  no-place n l true h e = absurd (cc)
  no-place n l false h e = grind (arith, nat_tests)

  pub missing-first : (xs : List X) → None ≡ position test xs → find test xs ≡ None
  missing-first xs e = not-there xs (no-place (place xs) (length xs) (ltb (place xs) (length xs)) refl e)

  same-first : (xs : List X) → change_first test (λ x. x) xs ≡ xs
  same-first [] = refl
  same-first (x ∷ xs) = step (test x) (same-first xs)
    where
      step : (b : Bool) → change_first test (λ y. y) xs ≡ xs → cond b (x ∷ xs) (x ∷ change_first test (λ y. y) xs) ≡ x ∷ xs
      step true e = refl
      step false e = ap (λ (ys : List X). x ∷ ys) e

  -- written again as it was
  pub set-same : (xs : List X) (i : ℕ) (v : X) → Some i ≡ position test xs → v ≡ get_or xs i v → set xs i v ≡ xs
  set-same xs i v e h = first-changed test (λ x. x) xs i v e h ∙ same-first xs

-- ---- the connection of a seat

abbrev pub has_seat : ℕ → Connection → Bool
has_seat seat c = c.seat == seat

abbrev pub queued_so : List (List ℕ) → Connection → Connection
queued_so queue c = record c { queue = queue }

no-other : (seat first : ℕ) (queue : List (List ℕ)) (cs : List Connection) → (first == seat) ≡ true → AllByRecursion (λ n. nat_eq first n ≡ false) (map (λ (c : Connection). c.seat) cs) → map (requeued seat (λ _. queue)) cs ≡ cs
no-other seat first queue [] e h = refl
no-other seat first queue (c ∷ cs) e h =
    let away : (c.seat == seat) ≡ false = not-same first c.seat seat e h.0 in
    let one : requeued seat (λ _. queue) c ≡ c = ap (λ (b : Bool). cond b (record c { queue = queue }) c) away in
    λ i. one i ∷ no-other seat first queue cs e h.1 i
  where
    not-same : (a b n : ℕ) → (a == n) ≡ true → nat_eq a b ≡ false → (b == n) ≡ false
    not-same a b n e h = grind (arith, nat_tests)

requeued-first : (seat : ℕ) (queue : List (List ℕ)) (cs : List Connection) → IsDistinct nat_eq (map (λ (c : Connection). c.seat) cs) → change_first (has_seat seat) (queued_so queue) cs ≡ map (requeued seat (λ _. queue)) cs
unfolding IsDistinct
requeued-first seat queue [] d = refl
requeued-first seat queue (c ∷ cs) d = step (c.seat == seat) refl (requeued-first seat queue cs d.1)
  where
    step : (b : Bool) → (c.seat == seat) ≡ b → change_first (has_seat seat) (queued_so queue) cs ≡ map (requeued seat (λ _. queue)) cs →
        cond b (queued_so queue c ∷ cs) (c ∷ change_first (has_seat seat) (queued_so queue) cs) ≡ cond b (record c { queue = queue }) c ∷ map (requeued seat (λ _. queue)) cs
    step true e more = ap (λ (xs : List Connection). queued_so queue c ∷ xs) (sym (no-other seat c.seat queue cs e d.0))
    step false e more = ap (λ (xs : List Connection). c ∷ xs) more

-- ---- the connections of the state may still wait for changes

queue-silent : (o : Option Connection) → option_map (λ (e : Connection). e.queue) (option_map silent o) ≡ option_map (λ (e : Connection). e.queue) o
queue-silent None = refl
queue-silent (Some c) = refl

seats-silent : (cs : List Connection) → map (λ (x : Connection). x.seat) (map silent cs) ≡ map (λ (x : Connection). x.seat) cs
seats-silent [] = refl
seats-silent (c ∷ cs) = ap (λ (xs : List ℕ). c.seat ∷ xs) (seats-silent cs)

-- the queue of a seat set there is set here
requeued-queues : (seat : ℕ) (queue : List (List ℕ)) (cs : List Connection) → with_queues cs (map (requeued seat (λ _. queue)) (map silent cs)) ≡ map (requeued seat (λ _. queue)) cs
requeued-queues seat queue [] = refl
requeued-queues seat queue (c ∷ cs) = λ i. one (c.seat == seat) i ∷ requeued-queues seat queue cs i
  where
    one : (b : Bool) → record c { queue = (cond b (record (silent c) { queue = queue }) (silent c)).queue } ≡ cond b (record c { queue = queue }) c
    one true = refl
    one false = refl

-- where the queue of the connection at a place is set, no other queue changes
set-queues : (i : ℕ) (queue : List (List ℕ)) (cs : List Connection) (v : Connection) → v ≡ get_or cs i v → with_queues cs (set cs i (queued_so queue v)) ≡ set cs i (queued_so queue v)
set-queues i queue [] v e = refl
set-queues zero queue (c ∷ cs) v e = λ j. queued_so queue (sym e j) ∷ same-queues cs j
set-queues (suc i) queue (c ∷ cs) v e = ap (λ (xs : List Connection). c ∷ xs) (set-queues i queue cs v e)

pub queues-set : (i : ℕ) (queue : List (List ℕ)) (cs cs' : List Connection) (v : Connection) → v ≡ get_or cs i v → cs' ≡ set cs i (queued_so queue v) → with_queues cs cs' ≡ cs'
queues-set i queue cs cs' v e f = ap (with_queues cs) f ∙ (set-queues i queue cs v e ∙ sym f)

module _ (seat : ℕ) (cs : List Connection) (i : ℕ) (v c : Connection) (place_is : Some i ≡ position (has_seat seat) cs) (stands : v ≡ get_or cs i v) (found : connection_of cs seat ≡ Some (silent c)) where
  some-is : (x y : Connection) → Some x ≡ Some y → x ≡ y
  some-is x y e = cc

  -- it is the one that stands there
  pub connection-is : v ≡ silent c
  connection-is = some-is v (silent c) (sym (found-first (has_seat seat) cs i v place_is stands) ∙ found)

  pub seat-is : c.seat ≡ seat
  seat-is = nat_is c.seat seat (found_passes (has_seat seat) cs (silent c) found)

  module _ (s : State) (valid : Valid s) (connected : map silent s.connections ≡ cs) (most : ℕ) (limit : s.limits.queued ≡ most) where
    pub queue-is : IsQueue s c v.queue most
    queue-is = record {
      own = ap (λ (x : Connection). x.queue) (sym connection-is);
      here = ap (λ (n : ℕ). option_map (λ (e : Connection). e.queue) (connection_of s.connections n)) seat-is
          ∙ (sym (queue-silent (connection_of s.connections seat))
          ∙ (ap (λ (x : Option Connection). option_map (λ (e : Connection). e.queue) x) (sym (silent-found s.connections seat) ∙ ap (λ (xs : List Connection). connection_of xs seat) connected)
          ∙ (ap (λ (x : Option Connection). option_map (λ (e : Connection). e.queue) x) found ∙ ap (λ (x : Connection). Some x.queue) (sym connection-is))));
      limit = limit;
    }

    pub queue-set : (queue : List (List ℕ)) → queue_set s c queue ≡ record s { connections = with_queues s.connections (set cs i (queued_so queue v)) }
    queue-set queue =
        let differ : IsDistinct nat_eq (map (λ (x : Connection). x.seat) cs) =
        subst (λ (xs : List Connection). IsDistinct nat_eq (map (λ (x : Connection). x.seat) xs)) connected (subst (IsDistinct nat_eq) (sym (seats-silent s.connections)) valid.seats_differ) in
        let set-is : set cs i (queued_so queue v) ≡ map (requeued seat (λ _. queue)) (map silent s.connections) =
        first-changed (has_seat seat) (queued_so queue) cs i v place_is stands ∙ (requeued-first seat queue cs differ ∙ ap (map (requeued seat (λ _. queue))) (sym connected)) in
        (λ j. record s { connections = map (requeued (seat-is j) (λ _. queue)) s.connections })
        ∙ ((λ j. record s { connections = sym (requeued-queues seat queue s.connections) j }) ∙ (λ j. record s { connections = with_queues s.connections (sym set-is j) }))

-- no connection is of the seat
pub absent-bus : (seat : ℕ) (cs : List Connection) (c : Connection) → None ≡ position (has_seat seat) cs → bus_of (connection_of cs seat) ≡ Some c → ⊥
absent-bus seat cs c e h = let no : None ≡ Some c = sym (ap bus_of (missing-first (has_seat seat) cs e)) ∙ h in cc

-- what a Present of its queue gives
pub queue-serves : (seat : ℕ) (cs : List Connection) (i : ℕ) (v : Connection) → Some i ≡ position (has_seat seat) cs → v ≡ get_or cs i v → (most : ℕ) (path : List ℕ) (queue : List (List ℕ)) (cs' : List Connection) → cs' ≡ set cs i (queued_so queue v) →
    (r : Result ServedCall WantOfMemory) → IfOk r (λ served. (s : State) (c : Connection) → Valid s → IsQueue s c v.queue most → c.who ≡ v.who → Serves s c (Request.Present path) served.given (queue_set s c queue) served.answer) →
    IfOk r (λ served. (s : State) (c : Connection) → Valid s → map silent s.connections ≡ cs → s.limits.queued ≡ most → bus_of (connection_of cs seat) ≡ Some (silent c) → Serves s c (Request.Present path) served.given (record s { connections = with_queues s.connections cs' }) served.answer)
queue-serves seat cs i v place_is stands most path queue cs' e r =
    if_ok (λ served. (s : State) (c : Connection) → Valid s → IsQueue s c v.queue most → c.who ≡ v.who → Serves s c (Request.Present path) served.given (queue_set s c queue) served.answer)
    (λ served. (s : State) (c : Connection) → Valid s → map silent s.connections ≡ cs → s.limits.queued ≡ most → bus_of (connection_of cs seat) ≡ Some (silent c) → Serves s c (Request.Present path) served.given (record s { connections = with_queues s.connections cs' }) served.answer)
    r
    (λ served k. λ s c valid connected limit here.
    let found : connection_of cs seat ≡ Some (silent c) = bus_found (connection_of cs seat) (silent c) here in
    let set_is : queue_set s c queue ≡ record s { connections = with_queues s.connections cs' } = queue-set seat cs i v c place_is stands found s valid connected most limit queue ∙ (λ j. record s { connections = with_queues s.connections (sym e j) }) in
    subst (λ (t : State). Serves s c (Request.Present path) served.given t served.answer) set_is
    (k s c valid (queue-is seat cs i v c place_is stands found s valid connected most limit) (ap (λ (x : Connection). x.who) (sym (connection-is seat cs i v c place_is stands found)))))
