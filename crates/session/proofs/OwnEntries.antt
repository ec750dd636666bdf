-- A seat's own entries between two desks: what is open ahead of each, and what an application is replied to its own.
use Rattle.std.proofs.Common.{◌≡◌, ℕ, ◌+◌, ◌≤◌, List, [], ◌∷◌, ◌++◌, ◌==◌, length, Bool, true, false, cond, Option, Some, sym, ap, ◌∙◌, subst, arith}
use Rattle.std.specs.Prelude.{slice_get}
use Rattle.std.proofs.lemmas.Bool.Decides.{nat_tests}
use Rattle.std.proofs.lemmas.List.{append_assoc, append_cancel_left, length-append, map-append}
use Rattle.portal_base.specs.declared.who.Kind.{Kind}
use Rattle.portal_base.specs.declared.who.Who.{Who}
use Rattle.portal_model.specs.declared.entry.Entry.{Entry}
use Rattle.portal_model.specs.declared.reply.Refused.{Refused}
use Rattle.portal_model.specs.declared.reply.Reply.{Reply}
use Rattle.portal_model.specs.declared.request.Request.{Request}
use Rattle.portal_model.specs.History.{Legal, makes, of_seat, replies, run}
use Rattle.portal_desk.specs.Knowing.{Known}
use Rattle.portal_model.specs.Seated.{BeginsWith, Binding, Exchange, Seated, bound, bound_by, is_open, state_seen}
use Rattle.portal_model.specs.State.{State, connection_of}
use Rattle.portal_model.specs.Step.{reply_at}
use Rattle.portal_model.specs.Alike.{Alike}
use Rattle.app_world.specs.World.{app_run, trace}
use Rattle.served_world.specs.ServedWorld.{served_run, served_trace}
use Rattle.served_world.proofs.ServedHistories.{isolated as by_looks}
use Rattle.portal_model.proofs.Histories.{of_seat-append, run-append}
use Rattle.portal_model.proofs.SeatLaws.{begins-between, exchanges-entries, run-bound}
use Rattle.session.specs.declared.act.Client.{Client}
use Rattle.session.specs.Answers.{Denied, Made, Outcome, kept}
use Rattle.session.specs.Isolation.{IsIsolated, IsServed, IsServedByLooks}
use Rattle.session.specs.Ledger.{Grew}
use Rattle.session.specs.Sessions.{IsBound, IsOpen}
use Rattle.session.proofs.Grew.{alike-entries}
use Rattle.session.proofs.ConnectionStaysOpen.{AskOnly, IsPlain, Lets, MakesOnly, all-front, entries_of, entries_stay, not_open}
use Rattle.session.proofs.ServedTraces.{IsMakers, made_by_bound, served_at}

-- ---- what is open ahead of an entry

-- what may be said of a request by what is open where it is asked
abbrev pub ByBinding : Type 1
ByBinding = Option Binding → Request → Type 0

-- from one desk to another there came outcomes, and each entry of theirs is so
abbrev pub Came : ByBinding → Seated → Seated → Type 0
Came P v w = (os : List Outcome) × Grew v os w × ((xs ys : List Entry) (e : Entry) → entries_of (kept os) ≡ xs ++ e ∷ ys → P (bound_by (bound (state_seen v) v.seat) xs) e.request)

pub came_as : (P Q : ByBinding) (v w : Seated) → ((o : Option Binding) (request : Request) → P o request → Q o request) → Came P v w → Came Q v w
came_as P Q v w h (os, g, each) = (os, g, λ xs ys e is. h (bound_by (bound (state_seen v) v.seat) xs) e.request (each xs ys e is))

own_entries : (d : Seated) → Known d → entries_of d.mine ≡ of_seat d.seat d.seen
own_entries d k = ap entries_of (sym k.mine) ∙ exchanges-entries d.seat d.seen d.opening

seat_first : (seat : ℕ) (e : Entry) (es : List Entry) → e.seat ≡ seat → of_seat seat (e ∷ es) ≡ e ∷ of_seat seat es
seat_first seat e es h =
    let own : (e.seat == seat) ≡ true = grind (arith, nat_tests) in
    ap (λ (b : Bool). cond b (e ∷ of_seat seat es) (of_seat seat es)) own

-- the seat's own entries among what came after the first desk
new_entries : (v w : Seated) (os : List Outcome) (mids after : List Entry) (e : Entry) → Known v → Known w → Grew v os w → w.seen ≡ v.seen ++ (mids ++ e ∷ after) → e.seat ≡ w.seat
    → entries_of (kept os) ≡ of_seat w.seat mids ++ e ∷ of_seat w.seat after
new_entries v w os mids after e a b g seen own =
    let mine : of_seat w.seat w.seen ≡ of_seat w.seat v.seen ++ entries_of (kept os) =
    sym (own_entries w b) ∙ (ap entries_of g.mine ∙ (map-append (λ (x : Exchange). x.entry) v.mine g.steps ∙ (ap (λ (z : List Entry). entries_of v.mine ++ z) (sym (alike-entries v.opening.told g.steps (kept os) g.alike))
    ∙ ap (λ (z : List Entry). z ++ entries_of (kept os)) (own_entries v a ∙ ap (λ (n : ℕ). of_seat n v.seen) (sym g.moved.seat))))) in
    let split : of_seat w.seat w.seen ≡ of_seat w.seat v.seen ++ (of_seat w.seat mids ++ e ∷ of_seat w.seat after) =
    ap (of_seat w.seat) seen ∙ (of_seat-append w.seat v.seen (mids ++ e ∷ after) ∙ ap (λ (z : List Entry). of_seat w.seat v.seen ++ z)
    (of_seat-append w.seat mids (e ∷ after) ∙ ap (λ (z : List Entry). of_seat w.seat mids ++ z) (seat_first w.seat e after own))) in
    append_cancel_left (of_seat w.seat v.seen) _ _ (sym mine ∙ split)

-- the connection of the seat ahead of one of them
ahead_bound : (v w : Seated) (mids : List Entry) → w.opening ≡ v.opening → w.seat ≡ v.seat → bound (run w.opening (v.seen ++ mids)) w.seat ≡ bound_by (bound (state_seen v) v.seat) (of_seat w.seat mids)
ahead_bound v w mids opening seat =
    ap (λ (s : State). bound s w.seat) (run-append v.seen mids w.opening)
    ∙ (run-bound w.seat mids (run w.opening v.seen)
    ∙ ap (λ (o : Option Binding). bound_by o (of_seat w.seat mids))
    (ap (λ (s : State). bound (run s v.seen) w.seat) opening ∙ ap (λ (n : ℕ). bound (state_seen v) n) seat))

-- what came after the first desk, ahead of an entry
front_after : (v w : Seated) (front after : List Entry) (e : Entry) (os : List Outcome) → Grew v os w → w.seen ≡ front ++ e ∷ after → length v.seen ≤ length front → BeginsWith front v.seen
front_after v w front after e os g seen long = begins-between w.seen front v.seen (e ∷ after, seen) g.moved.begins long

own_behind : (P : ByBinding) (v w : Seated) (front mids after : List Entry) (e : Entry) → Known v → Known w → Came P v w → front ≡ v.seen ++ mids → w.seen ≡ front ++ e ∷ after → e.seat ≡ w.seat → P (bound (run w.opening front) e.seat) e.request
own_behind P v w front mids after e a b (os, g, each) parts seen own =
    let whole : w.seen ≡ v.seen ++ (mids ++ e ∷ after) = seen ∙ (ap (λ (z : List Entry). z ++ e ∷ after) parts ∙ append_assoc v.seen mids (e ∷ after)) in
    let here : bound (run w.opening front) e.seat ≡ bound_by (bound (state_seen v) v.seat) (of_seat w.seat mids) =
    ap (λ (n : ℕ). bound (run w.opening front) n) own ∙ (ap (λ (z : List Entry). bound (run w.opening z) w.seat) parts ∙ ahead_bound v w mids g.moved.opening g.moved.seat) in
    subst (λ (o : Option Binding). P o e.request) (sym here) (each (of_seat w.seat mids) (of_seat w.seat after) e (new_entries v w os mids after e a b g whole own))

-- so is each entry of the seat behind what the first desk has seen, in the history that the second has seen
pub own_at : (P : ByBinding) (v w : Seated) (front after : List Entry) (e : Entry) → Known v → Known w → Came P v w → w.seen ≡ front ++ e ∷ after → length v.seen ≤ length front → e.seat ≡ w.seat → P (bound (run w.opening front) e.seat) e.request
own_at P v w front after e a b (os, g, each) seen long own =
    let parts : BeginsWith front v.seen = front_after v w front after e os g seen long in
    own_behind P v w front parts.0 after e a b (os, g, each) parts.1 seen own

-- ---- what an application is replied to entries that it makes

module _ (app : List ℕ) (v w : Seated) (a : Known v) (b : Known w) (came : Came (IsMakers app) v w) where
  made_own : (front after : List Entry) (e : Entry) → w.seen ≡ front ++ e ∷ after → length v.seen ≤ length front → e.seat ≡ w.seat → makes app (run w.opening front) e ≡ true
  made_own front after e seen long own =
      made_by_bound app (connection_of (run w.opening front).connections e.seat) e.request (own_at (IsMakers app) v w front after e a b came seen long own)

  served_told : w.opening.told ≡ true → IsServed app v w
  served_told told front after e seen long own =
      subst (λ (h : List Entry). slice_get (app_run (trace app w.opening h)) (length (replies app w.opening front)) ≡ Some (reply_at (run w.opening front) e)) (sym seen)
      (served_at app w.opening front after e told (subst (Legal w.opening) seen b.legal) (made_own front after e seen long own))

  served_by_looks : IsServedByLooks app v w
  served_by_looks front after e seen long own =
      subst (λ (h : List Entry). (mine : Reply) × (slice_get (served_run (served_trace app w.opening h)) (length (replies app w.opening front)) ≡ Some mine)
      × ((given : Reply) → Alike w.opening.told e.request (reply_at (run w.opening front) e) given → Alike false e.request mine given)) (sym seen)
      (by_looks.place app w.opening front after e (subst (Legal w.opening) seen b.legal) (made_own front after e seen long own))

-- where the client is an application that makes them all
pub came_isolated : (who : Who) (v w : Seated) → Known v → Known w → ((app : List ℕ) → who ≡ Who.App app → Came (IsMakers app) v w) → IsIsolated who v w
came_isolated who v w a b came app is = (served_told app v w a b (came app is), served_by_looks app v w a b (came app is))

-- ---- of one call of a session

none_behind : (h front after : List Entry) (e : Entry) → h ≡ front ++ e ∷ after → length h ≤ length front → ⊥
none_behind h front after e seen long =
    let n : length h ≡ length front + length (e ∷ after) = ap length seen ∙ length-append front (e ∷ after) in
    omega arith

-- where nothing more was seen
pub still_isolated : (who : Who) (v : Seated) → IsIsolated who v v
still_isolated who v app is = (λ told front after e seen long own. absurd (none_behind v.seen front after e seen long), λ front after e seen long own. absurd (none_behind v.seen front after e seen long))

-- where what was made leaves the open connection
lets_at : (app : List ℕ) (c : Client) (v : Seated) (os : List Outcome) (xs ys : List Entry) (e : Entry) → MakesOnly IsPlain os → IsOpen c v → c.who ≡ Who.App app → entries_of (kept os) ≡ xs ++ e ∷ ys → IsMakers app (bound_by (bound (state_seen v) v.seat) xs) e.request
lets_at app c v os xs ys e plain is who parts =
    let stays : bound_by (bound (state_seen v) v.seat) xs ≡ bound (state_seen v) v.seat =
    entries_stay xs (bound (state_seen v) v.seat) (all-front (λ (x : Entry). IsPlain x.request) xs (e ∷ ys) (subst (AskOnly IsPlain) parts plain)) in
    subst (λ (o : Option Binding). IsMakers app o e.request) (sym (stays ∙ is)) who

lets_own : (app : List ℕ) (c : Client) (v w : Seated) → Lets v w → IsOpen c v → c.who ≡ Who.App app → Came (IsMakers app) v w
lets_own app c v w (os, g, plain) is who = (os, g, λ xs ys e parts. lets_at app c v os xs ys e plain is who parts)

pub lets_isolated : (c : Client) (v w : Seated) → Known v → Known w → Lets v w → IsOpen c v → IsIsolated c.who v w
lets_isolated c v w a b lets is = came_isolated c.who v w a b (λ app who. lets_own app c v w lets is who)

-- one entry
one_at : (P : ByBinding) (o : Option Binding) (only : Entry) (xs ys : List Entry) (e : Entry) → P o only.request → only ∷ [] ≡ xs ++ e ∷ ys → P (bound_by o xs) e.request
one_at P o only [] ys e h is = let same : only ≡ e = cc in subst (λ (z : Entry). P o z.request) same h
one_at P o only (x ∷ []) ys e h is = absurd (cc)
one_at P o only (x ∷ y ∷ xs) ys e h is = absurd (cc)

made_one : (P : ByBinding) (v w : Seated) (x : Exchange) → Grew v (Made x ∷ []) w → P (bound (state_seen v) v.seat) x.entry.request → Came P v w
made_one P v w x g h = (Made x ∷ [], g, λ xs ys e is. one_at P (bound (state_seen v) v.seat) x.entry xs ys e h is)

-- an Enter, where none was open
pub enter_isolated : (who : Who) (kind : Kind) (v w : Seated) (x : Exchange) → Known v → Known w → is_open (state_seen v) v.seat ≡ false → x.entry.request ≡ Request.Enter who kind → Grew v (Made x ∷ []) w → IsIsolated who v w
enter_isolated who kind v w x a b closed is g =
    came_isolated who v w a b (λ app same. made_one (IsMakers app) v w x g
    (subst (λ (o : Option Binding). IsMakers app o x.entry.request) (sym (not_open (state_seen v) v.seat closed)) (kind, is ∙ ap (λ (z : Who). Request.Enter z kind) same)))

-- any request on an open connection
pub open_isolated : (who : Who) (kind : Kind) (v w : Seated) (x : Exchange) → Known v → Known w → IsBound who kind v → Grew v (Made x ∷ []) w → IsIsolated who v w
open_isolated who kind v w x a b is g =
    came_isolated who v w a b (λ app same. made_one (IsMakers app) v w x g (subst (λ (o : Option Binding). IsMakers app o x.entry.request) (sym is) same))

no_entry : (P : ByBinding) (o : Option Binding) (xs ys : List Entry) (e : Entry) → [] ≡ xs ++ e ∷ ys → P (bound_by o xs) e.request
no_entry P o [] ys e is = absurd (cc)
no_entry P o (x ∷ xs) ys e is = absurd (cc)

-- a request that was refused
pub refused_isolated : (who : Who) (v w : Seated) (request : Request) (why : Refused) → Known v → Known w → Grew v (Denied request why ∷ []) w → IsIsolated who v w
refused_isolated who v w request why a b g =
    came_isolated who v w a b (λ app same. (Denied request why ∷ [], g, λ xs ys e is. no_entry (IsMakers app) (bound (state_seen v) v.seat) xs ys e is))
