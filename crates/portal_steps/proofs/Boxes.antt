-- What connections wait for, and the boxes that hold it: as a connection begins and ends, is told, and presents a file.
use Rattle.std.specs.Prelude.{IfSome}
use Rattle.std.proofs.Common.{◌≡◌, ℕ, ◌==◌, List, [], ◌∷◌, ◌++◌, map, Bool, true, false, not, cond, Option, Some, None, is_some, option_map, unwrap_or, refl, sym, ap, subst, ◌∙◌, arith}
use Rattle.std.proofs.lemmas.Bool.Decides.{nat_tests}
use Rattle.std.proofs.lemmas.List.{map-append}
use Rattle.change_signals.specs.Unsent.{AtSeat, Boxes, IsSame, entered, holding, left, unsent_on}
use Rattle.node_serving.specs.Seats.{unnamed}
use Rattle.portal_base.specs.declared.who.Kind.{Kind}
use Rattle.portal_base.specs.declared.who.Who.{Who}
use Rattle.portal_model.specs.declared.reply.Change.{Change}
use Rattle.portal_model.specs.declared.state.Connection.{Connection}
use Rattle.portal_model.specs.Enter.{new_connection}
use Rattle.portal_model.specs.Leave.{of_others}
use Rattle.portal_model.specs.State.{State, connection_of, is_mount}
use Rattle.portal_model.specs.Step.{all_told, bus_of, mount_of, told_of}
use Rattle.portal_model.specs.Valid.{Valid, is_host_bus}
use Rattle.portal_model.proofs.ListLookups.{found_passes, nat_is}
use Rattle.portal_model.proofs.WhoWaits.{all_told-nothing, found-quiet, mount-quiet}
use Rattle.portal_steps.specs.Documents.{with_queues}
use Rattle.portal_steps.specs.Stored.{Hears}
use Rattle.store_serving.specs.Waiting.{AreWaiting, box_of, box_on, silent}

is-number : (a b : ℕ) → (a == b) ≡ true → a ≡ b
is-number a b e = grind (arith, nat_tests)

turned : (a b : ℕ) (t : Bool) → (a == b) ≡ t → (b == a) ≡ t
turned a b t e = grind (arith, nat_tests)

-- ---- connections that change and keep their seats

abbrev pub KeepsSeat : (Connection → Connection) → Type 0
KeepsSeat f = (c : Connection) → (f c).seat ≡ c.seat

pub found-mapped : (f : Connection → Connection) (cs : List Connection) (q : ℕ) → KeepsSeat f → connection_of (map f cs) q ≡ option_map f (connection_of cs q)
found-mapped f [] q k = refl
found-mapped f (c ∷ cs) q k = ap (λ (n : ℕ). cond (n == q) (Some (f c)) (connection_of (map f cs) q)) (k c) ∙ by (c.seat == q) (found-mapped f cs q k)
  where
    by : (b : Bool) → connection_of (map f cs) q ≡ option_map f (connection_of cs q) → cond b (Some (f c)) (connection_of (map f cs) q) ≡ option_map f (cond b (Some c) (connection_of cs q))
    by true e = refl
    by false e = e

pub silent-found : (cs : List Connection) (q : ℕ) → connection_of (map silent cs) q ≡ option_map silent (connection_of cs q)
silent-found cs q = found-mapped silent cs q (λ c. refl)

pub some-silent : (o : Option Connection) → is_some (option_map silent o) ≡ is_some o
some-silent None = refl
some-silent (Some c) = refl

pub bus-silent : (o : Option Connection) → bus_of (option_map silent o) ≡ option_map silent (bus_of o)
bus-silent None = refl
bus-silent (Some c) = elim (is_mount c.kind) as (λ b. cond b None (Some (silent c)) ≡ option_map silent (cond b None (Some c))) [ true ↦ refl | false ↦ refl ]

-- a connection but for what it waits for
abbrev pub hushed : Connection → Connection
hushed c = record c { unsent = [] }

pub hushed-found : (cs : List Connection) (q : ℕ) → connection_of (map hushed cs) q ≡ option_map hushed (connection_of cs q)
hushed-found cs q = found-mapped hushed cs q (λ c. refl)

pub mount-hushed : (o : Option Connection) → mount_of (option_map hushed o) ≡ option_map hushed (mount_of o)
mount-hushed None = refl
mount-hushed (Some c) = elim (is_mount c.kind) as (λ b. cond b (Some (hushed c)) None ≡ option_map hushed (cond b (Some c) None)) [ true ↦ refl | false ↦ refl ]

-- what it has named goes too
pub hushed-unnamed : (cs : List Connection) → map unnamed (map hushed cs) ≡ map silent cs
hushed-unnamed [] = refl
hushed-unnamed (c ∷ cs) = ap (λ (xs : List Connection). silent c ∷ xs) (hushed-unnamed cs)

-- ---- one connection is told

told-seat : (seat : ℕ) → KeepsSeat (told_of seat)
told-seat seat c = elim (c.seat == seat) as (λ b. (cond b (record c { unsent = [] }) c).seat ≡ c.seat) [ true ↦ refl | false ↦ refl ]

box-emptied : (c : Connection) → box_of (record c { unsent = [] }) ≡ holding [] (box_of c)
box-emptied c = elim (is_host_bus c.who c.kind) as (λ h. cond h (Some []) None ≡ holding [] (cond h (Some c.unsent) None)) [ true ↦ refl | false ↦ refl ]

box-told : (seat q : ℕ) (c : Connection) → c.seat ≡ q → box_of (told_of seat c) ≡ cond (seat == q) (holding [] (box_of c)) (box_of c)
box-told seat q c e = by (seat == q) refl
  where
    by : (b : Bool) → (seat == q) ≡ b → box_of (told_of seat c) ≡ cond b (holding [] (box_of c)) (box_of c)
    by true h = ap (λ (t : Bool). box_of (cond t (record c { unsent = [] }) c)) (ap (λ (n : ℕ). n == seat) e ∙ turned seat q true h) ∙ box-emptied c
    by false h = ap (λ (t : Bool). box_of (cond t (record c { unsent = [] }) c)) (ap (λ (n : ℕ). n == seat) e ∙ turned seat q false h)

box-on-told : (seat q : ℕ) (cs : List Connection) (o : Option Connection) → connection_of cs q ≡ o → box_on (option_map (told_of seat) o) ≡ cond (seat == q) (holding [] (box_on o)) (box_on o)
box-on-told seat q cs None e = either (seat == q) None
  where
    either : (b : Bool) (u : Option (List Change)) → u ≡ cond b u u
    either true u = refl
    either false u = refl
box-on-told seat q cs (Some c) e = box-told seat q c (nat_is c.seat q (found_passes (λ (x : Connection). x.seat == q) cs c e))

pub taken-waits : (seat : ℕ) (cs : List Connection) (old new : Boxes) → AtSeat (holding []) old new seat → AreWaiting cs old → AreWaiting (map (told_of seat) cs) new
taken-waits seat cs old new t w = λ q.
    t q ∙ ((λ i. cond (seat == q) (holding [] (w q i)) (w q i)) ∙ (sym (box-on-told seat q cs (connection_of cs q) refl) ∙ ap box_on (sym (found-mapped (told_of seat) cs q (told-seat seat)))))

-- what was taken is given back
pub back-waits : (seat : ℕ) (cs : List Connection) (old taken same new : Boxes) (signals : List Change) → AtSeat (holding []) old taken seat → IsSame taken same → signals ≡ unwrap_or (unsent_on old seat) [] → AtSeat (holding signals) same new seat →
    AreWaiting cs old → AreWaiting cs new
back-waits seat cs old taken same new signals t k e b w = λ q. b q ∙ (by q (seat == q) refl ∙ w q)
  where
    whole : (u : Option (List Change)) → signals ≡ unwrap_or u [] → holding signals (holding [] u) ≡ u
    whole None h = refl
    whole (Some unsent) h = ap (λ (x : List Change). Some x) h

    by : (q : ℕ) (h : Bool) → (seat == q) ≡ h → cond h (holding signals (unsent_on same q)) (unsent_on same q) ≡ unsent_on old q
    by q true h =
        ap (holding signals) (k q ∙ (t q ∙ ap (λ (x : Bool). cond x (holding [] (unsent_on old q)) (unsent_on old q)) h))
        ∙ whole (unsent_on old q) (e ∙ ap (λ (n : ℕ). unwrap_or (unsent_on old n) []) (is-number seat q h))
    by q false h = k q ∙ (t q ∙ ap (λ (x : Bool). cond x (holding [] (unsent_on old q)) (unsent_on old q)) h)

-- what was taken left nothing
pub taken-empty : (seat : ℕ) (old taken same : Boxes) → AtSeat (holding []) old taken seat → IsSame taken same → IfSome (unsent_on same seat) (λ signals. signals ≡ [])
taken-empty seat old taken same t k =
    subst (λ (u : Option (List Change)). IfSome u (λ signals. signals ≡ [])) (sym (k seat ∙ (t seat ∙ ap (λ (x : Bool). cond x (holding [] (unsent_on old seat)) (unsent_on old seat)) (itself seat)))) (by (unsent_on old seat))
  where
    itself : (n : ℕ) → (n == n) ≡ true
    itself n = grind (arith, nat_tests)

    by : (u : Option (List Change)) → IfSome (holding [] u) (λ signals. signals ≡ [])
    by None = tt
    by (Some signals) = refl

silent-told-one : (seat : ℕ) (c : Connection) → silent (told_of seat c) ≡ silent c
silent-told-one seat c = elim (c.seat == seat) as (λ b. silent (cond b (record c { unsent = [] }) c) ≡ silent c) [ true ↦ refl | false ↦ refl ]

pub silent-told : (seat : ℕ) (cs : List Connection) → map silent (map (told_of seat) cs) ≡ map silent cs
silent-told seat [] = refl
silent-told seat (c ∷ cs) = λ i. silent-told-one seat c i ∷ silent-told seat cs i

-- one that waits for nothing stays as it is
told-hushed-one : (seat : ℕ) (c : Connection) → told_of seat (hushed c) ≡ hushed c
told-hushed-one seat c = elim (c.seat == seat) as (λ b. cond b (record (hushed c) { unsent = [] }) (hushed c) ≡ hushed c) [ true ↦ refl | false ↦ refl ]

pub told-hushed : (seat : ℕ) (cs : List Connection) → map (told_of seat) (map hushed cs) ≡ map hushed cs
told-hushed seat [] = refl
told-hushed seat (c ∷ cs) = λ i. told-hushed-one seat c i ∷ told-hushed seat cs i

-- ---- where the seat has no open bus, nothing is told

told-absent : (seat : ℕ) (cs : List Connection) → connection_of cs seat ≡ None → map (told_of seat) cs ≡ cs
told-absent seat [] e = refl
told-absent seat (c ∷ cs) e = by (c.seat == seat) refl e (told-absent seat cs)
  where
    by : (b : Bool) → (c.seat == seat) ≡ b → cond b (Some c) (connection_of cs seat) ≡ None → (connection_of cs seat ≡ None → map (told_of seat) cs ≡ cs) → cond b (record c { unsent = [] }) c ∷ map (told_of seat) cs ≡ c ∷ cs
    by true h f more = absurd (cc)
    by false h f more = ap (λ (xs : List Connection). c ∷ xs) (more f)

mount-there : (c : Connection) → bus_of (Some c) ≡ None → is_mount c.kind ≡ true
mount-there c e = by (is_mount c.kind) e
  where
    by : (b : Bool) → cond b None (Some c) ≡ None → b ≡ true
    by true f = refl
    by false f = cc

pub told-no-bus : (s : State) (seat : ℕ) → Valid s → bus_of (connection_of s.connections seat) ≡ None → all_told seat s ≡ s
told-no-bus s seat v e = by (connection_of s.connections seat) refl e
  where
    by : (o : Option Connection) → connection_of s.connections seat ≡ o → bus_of o ≡ None → all_told seat s ≡ s
    by None f h = λ i. record s { connections = told-absent seat s.connections f i }
    by (Some c) f h = all_told-nothing s seat c v f (mount-quiet s seat c v f (mount-there c h))

-- ---- what is taken is what the connection of the seat waited for

abbrev pub unsent_of : Option Connection → List Change
unsent_of None = []
unsent_of (Some c) = c.unsent

box-unsent : (s : State) (seat : ℕ) (c : Connection) → Valid s → connection_of s.connections seat ≡ Some c → unwrap_or (box_of c) [] ≡ c.unsent
box-unsent s seat c v f = by (is_host_bus c.who c.kind) refl
  where
    by : (h : Bool) → is_host_bus c.who c.kind ≡ h → unwrap_or (cond h (Some c.unsent) None) [] ≡ c.unsent
    by true e = refl
    by false e = sym (found-quiet s seat c v f e)

pub taken-is : (s : State) (seat : ℕ) (boxes : Boxes) (signals : List Change) → Valid s → AreWaiting s.connections boxes → signals ≡ unwrap_or (unsent_on boxes seat) [] → signals ≡ unsent_of (bus_of (connection_of s.connections seat))
taken-is s seat boxes signals v w e = (e ∙ ap (λ (u : Option (List Change)). unwrap_or u []) (w seat)) ∙ by (connection_of s.connections seat) refl
  where
    bus : (c : Connection) (b : Bool) → is_mount c.kind ≡ b → connection_of s.connections seat ≡ Some c → unwrap_or (box_of c) [] ≡ unsent_of (cond b None (Some c))
    bus c true m f = box-unsent s seat c v f ∙ mount-quiet s seat c v f m
    bus c false m f = box-unsent s seat c v f

    by : (o : Option Connection) → connection_of s.connections seat ≡ o → unwrap_or (box_on o) [] ≡ unsent_of (bus_of o)
    by None f = refl
    by (Some c) f = bus c (is_mount c.kind) refl f

-- ---- a connection begins, and ends

pub joined-here : (cs : List Connection) (c : Connection) (q : ℕ) → connection_of cs q ≡ None → (c.seat == q) ≡ true → connection_of (cs ++ c ∷ []) q ≡ Some c
joined-here [] c q e h = ap (λ (b : Bool). cond b (Some c) None) h
joined-here (d ∷ ds) c q e h = by (d.seat == q) e (λ f. joined-here ds c q f h)
  where
    by : (b : Bool) → cond b (Some d) (connection_of ds q) ≡ None → (connection_of ds q ≡ None → connection_of (ds ++ c ∷ []) q ≡ Some c) → cond b (Some d) (connection_of (ds ++ c ∷ []) q) ≡ Some c
    by true f more = absurd (cc)
    by false f more = more f

pub joined-elsewhere : (cs : List Connection) (c : Connection) (q : ℕ) → (c.seat == q) ≡ false → connection_of (cs ++ c ∷ []) q ≡ connection_of cs q
joined-elsewhere [] c q h = ap (λ (b : Bool). cond b (Some c) None) h
joined-elsewhere (d ∷ ds) c q h = ap (λ (o : Option Connection). cond (d.seat == q) (Some d) o) (joined-elsewhere ds c q h)

pub left-here : (cs : List Connection) (seat : ℕ) → connection_of (of_others seat cs) seat ≡ None
left-here [] seat = refl
left-here (c ∷ cs) seat = by (c.seat == seat) refl (left-here cs seat)
  where
    by : (b : Bool) → (c.seat == seat) ≡ b → connection_of (of_others seat cs) seat ≡ None → connection_of (cond (not b) (c ∷ of_others seat cs) (of_others seat cs)) seat ≡ None
    by true h more = more
    by false h more = ap (λ (b : Bool). cond b (Some c) (connection_of (of_others seat cs) seat)) h ∙ more

pub left-elsewhere : (cs : List Connection) (seat q : ℕ) → (seat == q) ≡ false → connection_of (of_others seat cs) q ≡ connection_of cs q
left-elsewhere [] seat q h = refl
left-elsewhere (c ∷ cs) seat q h = by (c.seat == seat) refl (left-elsewhere cs seat q h)
  where
    by : (b : Bool) → (c.seat == seat) ≡ b → connection_of (of_others seat cs) q ≡ connection_of cs q → connection_of (cond (not b) (c ∷ of_others seat cs) (of_others seat cs)) q ≡ cond (c.seat == q) (Some c) (connection_of cs q)
    by true t more = more ∙ ap (λ (b : Bool). cond b (Some c) (connection_of cs q)) (sym (ap (λ (n : ℕ). n == q) (is-number c.seat seat t) ∙ h))
    by false t more = ap (λ (o : Option Connection). cond (c.seat == q) (Some c) o) more

module _ (seat : ℕ) (who : Who) (kind : Kind) (cs : List Connection) (old new : Boxes) (free : connection_of cs seat ≡ None) (w : AreWaiting cs old) where
  abbrev c : Connection
  c = new_connection seat who kind

  -- the box of the new one, by whether it hears of changes
  box-at : (q : ℕ) (h t : Bool) → (seat == q) ≡ t → Hears h seat old new → unsent_on new q ≡ cond t (cond h (Some []) None) (unsent_on old q)
  box-at q true true e k = k q ∙ ap (λ (b : Bool). cond b (entered (unsent_on old q)) (unsent_on old q)) e
  box-at q true false e k = k q ∙ ap (λ (b : Bool). cond b (entered (unsent_on old q)) (unsent_on old q)) e
  box-at q false true e k = k q ∙ (w q ∙ ap box_on (ap (connection_of cs) (sym (is-number seat q e)) ∙ free))
  box-at q false false e k = k q

  pub entered-waits : Hears (is_host_bus who kind) seat old new → AreWaiting (cs ++ c ∷ []) new
  entered-waits k = λ q. by q (seat == q) refl
    where
      by : (q : ℕ) (t : Bool) → (seat == q) ≡ t → unsent_on new q ≡ box_on (connection_of (cs ++ c ∷ []) q)
      by q true e = box-at q (is_host_bus who kind) true e k ∙ ap box_on (sym (joined-here cs c q (ap (connection_of cs) (sym (is-number seat q e)) ∙ free) e))
      by q false e = box-at q (is_host_bus who kind) false e k ∙ (w q ∙ ap box_on (sym (joined-elsewhere cs c q e)))

pub left-waits : (seat : ℕ) (cs : List Connection) (old new : Boxes) → AtSeat left old new seat → AreWaiting cs old → AreWaiting (of_others seat cs) new
left-waits seat cs old new k w = λ q. k q ∙ by q (seat == q) refl
  where
    by : (q : ℕ) (t : Bool) → (seat == q) ≡ t → cond t (left (unsent_on old q)) (unsent_on old q) ≡ box_on (connection_of (of_others seat cs) q)
    by q true e = ap box_on (sym (ap (connection_of (of_others seat cs)) (sym (is-number seat q e)) ∙ left-here cs seat))
    by q false e = w q ∙ ap box_on (sym (left-elsewhere cs seat q e))

pub silent-joined : (cs : List Connection) (seat : ℕ) (who : Who) (kind : Kind) → map silent (cs ++ new_connection seat who kind ∷ []) ≡ map silent cs ++ new_connection seat who kind ∷ []
silent-joined cs seat who kind = map-append silent cs (new_connection seat who kind ∷ [])

pub silent-others : (seat : ℕ) (cs : List Connection) → map silent (of_others seat cs) ≡ of_others seat (map silent cs)
silent-others seat [] = refl
silent-others seat (c ∷ cs) = by (c.seat == seat) (silent-others seat cs)
  where
    by : (b : Bool) → map silent (of_others seat cs) ≡ of_others seat (map silent cs) → map silent (cond (not b) (c ∷ of_others seat cs) (of_others seat cs)) ≡ cond (not b) (silent c ∷ of_others seat (map silent cs)) (of_others seat (map silent cs))
    by true e = e
    by false e = ap (λ (xs : List Connection). silent c ∷ xs) e

-- ---- queues change

pub silent-queues : (cs qs : List Connection) → map silent (with_queues cs qs) ≡ with_queues (map silent cs) qs
silent-queues [] qs = refl
silent-queues (c ∷ cs) [] = refl
silent-queues (c ∷ cs) (q ∷ qs) = ap (λ (xs : List Connection). record (silent c) { queue = q.queue } ∷ xs) (silent-queues cs qs)

box-queued : (cs qs : List Connection) (n : ℕ) → box_on (connection_of (with_queues cs qs) n) ≡ box_on (connection_of cs n)
box-queued [] qs n = refl
box-queued (c ∷ cs) [] n = refl
box-queued (c ∷ cs) (q ∷ qs) n = by (c.seat == n) (box-queued cs qs n)
  where
    by : (b : Bool) → box_on (connection_of (with_queues cs qs) n) ≡ box_on (connection_of cs n) → box_on (cond b (Some (record c { queue = q.queue })) (connection_of (with_queues cs qs) n)) ≡ box_on (cond b (Some c) (connection_of cs n))
    by true e = refl
    by false e = e

pub queued-waits : (cs qs : List Connection) (boxes : Boxes) → AreWaiting cs boxes → AreWaiting (with_queues cs qs) boxes
queued-waits cs qs boxes w = λ n. w n ∙ sym (box-queued cs qs n)

-- queues that stay
pub same-queues : (cs : List Connection) → with_queues cs cs ≡ cs
same-queues [] = refl
same-queues (c ∷ cs) = ap (λ (xs : List Connection). c ∷ xs) (same-queues cs)

pub silent-same : (cs : List Connection) → with_queues cs (map silent cs) ≡ cs
silent-same [] = refl
silent-same (c ∷ cs) = ap (λ (xs : List Connection). c ∷ xs) (silent-same cs)

-- ---- other changes of connections

pub kept-waits : (f : Connection → Connection) (cs : List Connection) (boxes : Boxes) → KeepsSeat f → ((c : Connection) → box_of (f c) ≡ box_of c) → AreWaiting cs boxes → AreWaiting (map f cs) boxes
kept-waits f cs boxes k b w = λ q. w q ∙ (by (connection_of cs q) ∙ ap box_on (sym (found-mapped f cs q k)))
  where
    by : (o : Option Connection) → box_on o ≡ box_on (option_map f o)
    by None = refl
    by (Some c) = sym (b c)
