-- A Present over the queue of its connection is that of the sequential portal.
use Rattle.std.proofs.Common.{◌≡◌, ℕ, ◌==◌, nat_eq, nat_lt, List, [], ◌∷◌, ◌++◌, length, map, Bool, true, false, not, cond, Option, Some, None, option_map, refl, sym, ap, subst, ◌∙◌, arith}
use Rattle.std.specs.List.{IsDistinct, AllByRecursion}
use Rattle.std.proofs.lemmas.Bool.Decides.{nat_tests}
use Rattle.portal_base.specs.declared.who.Who.{Who}
use Rattle.portal_model.specs.declared.entry.Fault.{Fault}
use Rattle.portal_model.specs.declared.reply.Answer.{Answer}
use Rattle.portal_model.specs.declared.reply.Code.{Code}
use Rattle.portal_model.specs.declared.request.Request.{Request}
use Rattle.portal_model.specs.declared.state.Connection.{Connection}
use Rattle.portal_model.specs.Arguments.{ahead_of_end, is_ended_path}
use Rattle.portal_model.specs.Present.{may_present, present, present_path, queue_path, requeued, with_queue}
use Rattle.portal_model.specs.State.{State, connection_of}
use Rattle.portal_model.specs.Valid.{Valid}
use Rattle.portal_model.specs.Verdict.{Verdict, Refuses, does, unless}
use Rattle.portal_model.specs.Walk.{Answers}
use Rattle.document_calls.specs.Books.{IsQueue, queue_set}
use Rattle.document_calls.specs.Queues.{presented, presented_path, queued}
use Rattle.document_calls.specs.Serves.{Serves, given_with}
use Rattle.document_calls.proofs.ServedSteps.{done-serves, refused-serves}

-- ---- the connection of a seat is the only one

abbrev seats : List Connection → List ℕ
seats cs = map (λ (c : Connection). c.seat) cs

abbrev queue_there : List Connection → ℕ → Option (List (List ℕ))
queue_there cs seat = option_map (λ c. c.queue) (connection_of cs seat)

elsewhere : (seat first : ℕ) (f g : List (List ℕ) → List (List ℕ)) (cs : List Connection) → (first == seat) ≡ true → AllByRecursion (λ n. nat_eq first n ≡ false) (seats cs) → map (requeued seat f) cs ≡ map (requeued seat g) cs
elsewhere seat first f g [] e h = refl
elsewhere seat first f g (c ∷ cs) e h =
    let away : (c.seat == seat) ≡ false = not-same first c.seat seat e h.0 in
    let one : requeued seat f c ≡ requeued seat g c = ap (λ (b : Bool). cond b (record c { queue = f c.queue }) c) away ∙ sym (ap (λ (b : Bool). cond b (record c { queue = g c.queue }) c) away) in
    λ i. one i ∷ elsewhere seat first f g cs e h.1 i
  where
    not-same : (a b n : ℕ) → (a == n) ≡ true → nat_eq a b ≡ false → (b == n) ≡ false
    not-same a b n e h = grind (arith, nat_tests)

-- two changes that make the same of its queue
module _ (seat : ℕ) (queue : List (List ℕ)) (f g : List (List ℕ) → List (List ℕ)) (same : f queue ≡ g queue) where
  first-queue : (x : Connection) (cs : List Connection) (b : Bool) → (x.seat == seat) ≡ b → AllByRecursion (λ n. nat_eq x.seat n ≡ false) (seats cs) →
      (queue_there cs seat ≡ Some queue → map (requeued seat f) cs ≡ map (requeued seat g) cs) → option_map (λ (c : Connection). c.queue) (cond b (Some x) (connection_of cs seat)) ≡ Some queue →
      cond b (record x { queue = f x.queue }) x ∷ map (requeued seat f) cs ≡ cond b (record x { queue = g x.queue }) x ∷ map (requeued seat g) cs
  first-queue x cs true e d more q =
      let own : x.queue ≡ queue = cc in
      let made : f x.queue ≡ g x.queue = ap f own ∙ (same ∙ sym (ap g own)) in
      λ i. record x { queue = made i } ∷ elsewhere seat x.seat f g cs e d i
  first-queue x cs false e d more q = λ i. x ∷ more q i

  pub same-queues : (cs : List Connection) → IsDistinct nat_eq (seats cs) → queue_there cs seat ≡ Some queue → map (requeued seat f) cs ≡ map (requeued seat g) cs
  unfolding IsDistinct
  same-queues [] d q = refl
  same-queues (x ∷ cs) d q = first-queue x cs (x.seat == seat) refl d.0 (same-queues cs d.1) q

one-stays : (seat : ℕ) (c : Connection) (b : Bool) → cond b (record c { queue = c.queue }) c ≡ c
one-stays seat c true = refl
one-stays seat c false = refl

queues-stay : (seat : ℕ) (cs : List Connection) → map (requeued seat (λ q. q)) cs ≡ cs
queues-stay seat [] = refl
queues-stay seat (c ∷ cs) = λ i. one-stays seat c (c.seat == seat) i ∷ queues-stay seat cs i

module _ (s : State) (c : Connection) (v : Valid s) (queue : List (List ℕ)) (most : ℕ) (h : IsQueue s c queue most) where
  pub same-queue : queue_set s c queue ≡ s
  same-queue = λ i. record s { connections = (same-queues c.seat queue (λ _. queue) (λ q. q) refl s.connections v.seats_differ h.here ∙ queues-stay c.seat s.connections) i }

  pub longer-queue : (path : List ℕ) → with_queue c.seat (λ q. q ++ path ∷ []) s ≡ queue_set s c (queue ++ path ∷ [])
  longer-queue path = λ i. record s { connections = same-queues c.seat queue (λ q. q ++ path ∷ []) (λ _. queue ++ path ∷ []) refl s.connections v.seats_differ h.here i }

  -- ---- the answer

  abbrev Presents : List ℕ → List (List ℕ) × Answer → Type 0
  Presents bytes done = Serves s c (Request.Present bytes) (given_with false Fault.None) (queue_set s c done.0) done.1

  refuses-so : (bytes : List ℕ) (code : Code) → present s c bytes ≡ Refuses code → Presents bytes (queue, Answer.Refused code)
  refuses-so bytes code e =
      subst (λ (t : State). Serves s c (Request.Present bytes) (given_with false Fault.None) t (Answer.Refused code)) (sym same-queue)
      (refused-serves s c (Request.Present bytes) code (ap (λ (x : Verdict). Answers x) e) refl)

  room-is : nat_lt (length c.queue) s.limits.queued ≡ nat_lt (length queue) most
  room-is = λ i. nat_lt (length (h.own i)) (h.limit i)

  by-room : (bytes : List ℕ) (b : Bool) → nat_lt (length queue) most ≡ b → present s c bytes ≡ queue_path s c (ahead_of_end bytes) →
      Presents bytes (cond b (queue ++ ahead_of_end bytes ∷ [], Answer.Place (length queue)) (queue, Answer.Refused Code.LimitsExceeded))
  by-room bytes true k e =
      let path = ahead_of_end bytes in
      let done : queue_path s c path ≡ does (with_queue c.seat (λ q. q ++ path ∷ []) s) (Answer.Place (length c.queue)) =
      ap (λ (b : Bool). unless (not b) Code.LimitsExceeded (does (with_queue c.seat (λ q. q ++ path ∷ []) s) (Answer.Place (length c.queue)))) (room-is ∙ k) in
      subst (λ (n : ℕ). Serves s c (Request.Present bytes) (given_with false Fault.None) (queue_set s c (queue ++ path ∷ [])) (Answer.Place n)) (ap length h.own)
      (subst (λ (t : State). Serves s c (Request.Present bytes) (given_with false Fault.None) t (Answer.Place (length c.queue))) (longer-queue path)
      (done-serves s c (Request.Present bytes) (with_queue c.seat (λ q. q ++ path ∷ []) s) (Answer.Place (length c.queue)) (ap (λ (x : Verdict). Answers x) (e ∙ done))))
  by-room bytes false k e =
      let path = ahead_of_end bytes in
      refuses-so bytes Code.LimitsExceeded
      (e ∙ ap (λ (b : Bool). unless (not b) Code.LimitsExceeded (does (with_queue c.seat (λ q. q ++ path ∷ []) s) (Answer.Place (length c.queue)))) (room-is ∙ k))

  by-right : (bytes : List ℕ) (b : Bool) → may_present c.who (ahead_of_end bytes) ≡ b → present s c bytes ≡ present_path s c (ahead_of_end bytes) →
      Presents bytes (cond b (queued queue most (ahead_of_end bytes)) (queue, Answer.Refused Code.NotAllowed))
  by-right bytes true k e =
      by-room bytes (nat_lt (length queue) most) refl (e ∙ ap (λ (b : Bool). unless (not b) Code.NotAllowed (queue_path s c (ahead_of_end bytes))) k)
  by-right bytes false k e =
      refuses-so bytes Code.NotAllowed (e ∙ ap (λ (b : Bool). unless (not b) Code.NotAllowed (queue_path s c (ahead_of_end bytes))) k)

  by-path : (bytes : List ℕ) (b : Bool) → is_ended_path bytes ≡ b → Presents bytes (presented_path queue most c.who (cond b (Some (ahead_of_end bytes)) None))
  by-path bytes true k =
      by-right bytes (may_present c.who (ahead_of_end bytes)) refl (ap (λ (b : Bool). unless (not b) Code.InvalidArgument (present_path s c (ahead_of_end bytes))) k)
  by-path bytes false k =
      refuses-so bytes Code.InvalidArgument (ap (λ (b : Bool). unless (not b) Code.InvalidArgument (present_path s c (ahead_of_end bytes))) k)

  pub presented-serves : (bytes : List ℕ) → Presents bytes (presented queue most c.who bytes)
  presented-serves bytes = by-path bytes (is_ended_path bytes) refl

pub present-serves : (queue new : List (List ℕ)) (most : ℕ) (who : Who) (bytes : List ℕ) (answer : Answer) → (new, answer) ≡ presented queue most who bytes → (s : State) (c : Connection) → Valid s → IsQueue s c queue most → c.who ≡ who →
    Serves s c (Request.Present bytes) (given_with false Fault.None) (queue_set s c new) answer
present-serves queue new most who bytes answer e s c v h w =
    subst (λ (done : List (List ℕ) × Answer). Serves s c (Request.Present bytes) (given_with false Fault.None) (queue_set s c done.0) done.1) (sym (e ∙ ap (λ (x : Who). presented queue most x bytes) (sym w)))
    (presented-serves s c v queue most h bytes)
