-- What items ask neither opens nor ends a connection.
use Rattle.std.proofs.Common.{◌≡◌, inl, inr, ℕ, List, [], ◌∷◌, ◌++◌, map, Bool, true, false, Option, Some, None, is_some, refl, sym, ap, ◌∙◌, subst}
use Rattle.std.specs.List.{AllByRecursion}
use Rattle.std.specs.Option.{option_map}
use Rattle.std.proofs.lemmas.List.{map-append}
use Rattle.portal_base.specs.declared.who.Kind.{Kind}
use Rattle.portal_base.specs.declared.who.Who.{Who}
use Rattle.portal_model.specs.declared.entry.Entry.{Entry}
use Rattle.portal_model.specs.declared.reply.Refused.{Refused}
use Rattle.portal_model.specs.declared.request.Request.{Request}
use Rattle.portal_model.specs.declared.state.Connection.{Connection}
use Rattle.portal_desk.specs.Knowing.{Known}
use Rattle.portal_model.specs.Seated.{Binding, Exchange, Seated, binding_of, bound, bound_after, bound_by, is_open, state_seen}
use Rattle.portal_model.specs.State.{State, connection_of}
use Rattle.portal_model.proofs.SeatLaws.{exchanges-entries, run-bound}
use Rattle.call_laws.specs.Answers.{IsOnRecords}
use Rattle.call_laws.proofs.Calls.{calls_on_records}
use Rattle.session.specs.declared.act.Act.{Act}
use Rattle.session.specs.declared.act.Act.TheVariants.{Nothing, Line, Call, Portal, Node, Local}
use Rattle.session.specs.declared.act.Client.{Client}
use Rattle.session.specs.declared.phase.Phase.{Phase}
use Rattle.session.specs.declared.served.Fed.{Fed}
use Rattle.session.specs.declared.served.Fed.TheVariants as fed
use Rattle.session.specs.declared.serve.Stage.{Stage}
use Rattle.session.specs.declared.served.Stop.{Stop}
use Rattle.session.specs.declared.served.Stop.TheVariants as stop
use Rattle.session.specs.declared.served.Served.{Served}
use Rattle.session.specs.declared.served.Served.TheVariants as served
use Rattle.session.specs.Answers.{AreOf, Denied, IsOf, Made, Outcome, kept}
use Rattle.session.specs.Asked.{asked_by, collect_requests, requests_of}
use Rattle.session.specs.Cuts.{next_phase}
use Rattle.session.specs.Items.{AreItems, IsItem}
use Rattle.session.specs.Ledger.{Began, Broke, Did, Grew, World}
use Rattle.session.specs.Sessions.{FeedsOpen, FeedsOver, IsBound, IsOpen, TakesUpTo}
use Rattle.session.specs.Standings.{Standing}
use Rattle.session.proofs.AnswersAsked.{asked_go}
use Rattle.session.proofs.Grew.{alike-entries, grew_none, grew_on, kept-append}
use Rattle.session.proofs.ReadActs.{AsksAsRead, read_asks}

abbrev pub entries_of : List Exchange → List Entry
entries_of xs = map (λ (x : Exchange). x.entry) xs

-- ---- requests that items make

-- a request that leaves the connection
abbrev pub IsPlain : Request → Type 0
IsPlain (Request.Enter who kind) = ⊥
IsPlain Request.Leave = ⊥
IsPlain request = Unit {0}

abbrev pub ArePlain : List Request → Type 0
ArePlain rs = AllByRecursion IsPlain rs

collects_plain : (b : Bool) → ArePlain (collect_requests b)
collects_plain true = (tt, tt)
collects_plain false = tt

-- what calls ask leaves it
records_plain : (r : Request) → IsOnRecords r → IsPlain r
records_plain (Request.Enter who kind) h = absurd h
records_plain Request.Leave h = absurd h
records_plain Request.Collect h = tt
records_plain (Request.Node r) h = tt
records_plain (Request.Present path) h = tt
records_plain (Request.Add a) h = tt
records_plain (Request.Grant call) h = tt
records_plain (Request.Revoke call) h = tt
records_plain (Request.DeleteDocument doc) h = tt
records_plain (Request.LookupDocument path) h = tt
records_plain (Request.Info doc) h = tt
records_plain (Request.ListDocuments app) h = tt
records_plain (Request.Store call) h = tt

act_plain : (c : Client) (act : Act) → AsksAsRead c act → ArePlain (asked_by act)
act_plain c Nothing h = tt
act_plain c (Line reply) h = tt
act_plain c (Call reply collects) h = collects_plain collects
act_plain c (Portal call request) h = (records_plain request (calls_on_records c.settings call request h), tt)
act_plain c (Node unique request) h = (tt, tt)
act_plain c (Local unique told) h = tt

pub item_plain : (c : Client) (p : Phase) (item : List ℕ) (act : Act) → IsItem c p item act → ArePlain (asked_by act)
item_plain c p item act h = act_plain c act (read_asks c p item act h.1)

pub all-append : {X : Type 0} (P : X → Type 0) (xs ys : List X) → AllByRecursion P xs → AllByRecursion P ys → AllByRecursion P (xs ++ ys)
all-append P [] ys a b = b
all-append P (x ∷ xs) ys a b = (a.0, all-append P xs ys a.1 b)

pub all-front : {X : Type 0} (P : X → Type 0) (xs ys : List X) → AllByRecursion P (xs ++ ys) → AllByRecursion P xs
all-front P [] ys h = tt
all-front P (x ∷ xs) ys h = (h.0, all-front P xs ys h.1)

pub items_plain : (is : List (List ℕ)) (c : Client) (p : Phase) (acts : List Act) → AreItems c p is acts → ArePlain (requests_of acts)
items_plain [] c p acts h = subst (λ (z : List Act). ArePlain (requests_of z)) (sym h) tt
items_plain (i ∷ is) c p acts (act, later, e, item, more) =
    subst (λ (z : List Act). ArePlain (requests_of z)) (sym e) (all-append IsPlain (asked_by act) (requests_of later) (item_plain c p i act item) (items_plain is c (next_phase c p i) later more))

-- ---- what was made of requests

-- each entry asks such a request
abbrev pub AskOnly : (Request → Type 0) → List Entry → Type 0
AskOnly P es = AllByRecursion (λ (e : Entry). P e.request) es

-- so does each that was made
abbrev pub MakesOnly : (Request → Type 0) → List Outcome → Type 0
MakesOnly P os = AskOnly P (entries_of (kept os))

module _ (P : Request → Type 0) where
  pub makes_on : (os us : List Outcome) → MakesOnly P os → MakesOnly P us → MakesOnly P (os ++ us)
  makes_on os us a b =
      subst (λ (z : List Exchange). AskOnly P (entries_of z)) (sym (kept-append os us))
      (subst (AskOnly P) (sym (map-append (λ (x : Exchange). x.entry) (kept os) (kept us))) (all-append (λ (e : Entry). P e.request) (entries_of (kept os)) (entries_of (kept us)) a b))

  makes_one : (r : Request) (x : Outcome) → P r → IsOf r x → MakesOnly P (x ∷ [])
  makes_one r (Made x) such h = (subst P (sym h) such, tt)
  makes_one r (Denied asked why) such h = tt

  pub makes_of : (rs : List Request) (os : List Outcome) → AllByRecursion P rs → AreOf rs os → MakesOnly P os
  makes_of [] os such h = subst (MakesOnly P) (sym h) tt
  makes_of (r ∷ rs) os such (x, us, e, is, more) = subst (MakesOnly P) (sym e) (makes_on (x ∷ []) us (makes_one r x such.0 is) (makes_of rs us such.1 more))

-- ---- entries that leave the connection

pub bound_stays : (r : Request) (o : Option Binding) → IsPlain r → bound_after o r ≡ o
bound_stays (Request.Enter who kind) o h = absurd h
bound_stays Request.Leave o h = absurd h
bound_stays request o h = refl

pub bound-append : (xs ys : List Entry) (o : Option Binding) → bound_by o (xs ++ ys) ≡ bound_by (bound_by o xs) ys
bound-append [] ys o = refl
bound-append (x ∷ xs) ys o = bound-append xs ys (bound_after o x.request)

pub entries_stay : (es : List Entry) (o : Option Binding) → AskOnly IsPlain es → bound_by o es ≡ o
entries_stay [] o h = refl
entries_stay (e ∷ es) o h = ap (λ (z : Option Binding). bound_by z es) (bound_stays e.request o h.0) ∙ entries_stay es o h.1

-- ---- the desk after the pieces

-- from one desk to another there came outcomes that leave the connection
abbrev pub Lets : Seated → Seated → Type 0
Lets v w = (os : List Outcome) × Grew v os w × MakesOnly IsPlain os

did_leaves : (c : Client) (s t : Stage) (v w : World) (b : List ℕ) → (d : Did c s v b t w) → MakesOnly IsPlain d.outcomes
did_leaves c s t v w b d =
    makes_of IsPlain (requests_of d.acts) d.outcomes (items_plain d.items c s.phase d.acts d.each) (asked_go d.acts c s.serial t.serial d.outcomes d.pieces d.answers)

did_lets : (c : Client) (s t : Stage) (v w : World) (b : List ℕ) → Did c s v b t w → Lets v.seated w.seated
did_lets c s t v w b d = (d.outcomes, d.grows.desk, did_leaves c s t v w b d)

broke_lets : (c : Client) (s : Stage) (v w : World) (b : List ℕ) → Broke c s v b w → Lets v.seated w.seated
broke_lets c s v w b k =
    let h = k.halted in (
      k.did.outcomes ++ h.outcomes,
      grew_on v.seated k.then.seated w.seated k.did.outcomes h.outcomes k.did.grows.desk h.grows.desk,
      makes_on IsPlain k.did.outcomes h.outcomes (did_leaves c s k.mid v k.then k.front k.did) (makes_of IsPlain (asked_by k.act) h.outcomes (item_plain c k.mid.phase k.item k.act k.is_item) h.gives.asked),
    )

began_lets : (c : Client) (s : Stage) (v w : World) (b : List ℕ) → Began c s v b w → Lets v.seated w.seated
began_lets c s v w b k = did_lets c s k.mid v w k.front k.did

none_lets : (v w : World) → w ≡ v → Lets v.seated w.seated
none_lets v w e = ([], subst (λ (z : World). Grew v.seated [] z.seated) (sym e) (grew_none v.seated), tt)

takes_let : (what : Stop) (s : Standing) (v : World) (piece : List ℕ) (t : Standing) (w : World) → TakesUpTo what s v piece t w → Lets v.seated w.seated
takes_let what s v piece t w h = did_lets s.client s.stage t.stage v w h.taken h.did

over_lets : (met : Served) (s : Standing) (v : World) (piece : List ℕ) (t : Standing) (w : World) → FeedsOver s v piece met t w → Lets v.seated w.seated
over_lets (served.Malformed at rule) s v piece t w h = takes_let (stop.Bad rule) s v piece t w h.0
over_lets (served.LineTooLong at) s v piece t w h = takes_let stop.TooLong s v piece t w h.0
over_lets served.Spent s v piece t w h = none_lets v w h.1
over_lets served.Ended s v piece t w h = absurd h
over_lets (served.Cut n) s v piece t w h = absurd h
over_lets served.ReadFault s v piece t w h = absurd h
over_lets served.WriteFault s v piece t w h = absurd h
over_lets (served.Full cost limit) s v piece t w h = absurd h
over_lets served.Memory s v piece t w h = absurd h

pub feeds_let : (r : Fed) (s : Standing) (v : World) (piece : List ℕ) (t : Standing) (w : World) → FeedsOpen s v piece r t w → Lets v.seated w.seated
feeds_let fed.More s v piece t w h = takes_let stop.More s v piece t w h.0
feeds_let (fed.Over met) s v piece t w h = over_lets met s v piece t w h.0
feeds_let fed.WriteFault s v piece t w h = broke_lets s.client s.stage v w (s.rest ++ piece) h.0
feeds_let fed.Memory s v piece t w (inl h, keeps, room, holds) = began_lets s.client s.stage v w (s.rest ++ piece) h
feeds_let fed.Memory s v piece t w (inr h, keeps, room, holds) = broke_lets s.client s.stage v w (s.rest ++ piece) h.0

-- ---- the open connection, by the seat's own entries

own_bound : (d : Seated) → Known d → bound (state_seen d) d.seat ≡ bound_by (bound d.opening d.seat) (entries_of d.mine)
own_bound d k = run-bound d.seat d.seen d.opening ∙ ap (bound_by (bound d.opening d.seat)) (sym (exchanges-entries d.seat d.seen d.opening) ∙ ap entries_of k.mine)

pub grew_bound : (v w : Seated) (os : List Outcome) → Known v → Known w → Grew v os w → bound (state_seen w) w.seat ≡ bound_by (bound (state_seen v) v.seat) (entries_of (kept os))
grew_bound v w os a b g =
    own_bound w b
    ∙ (ap (λ (s : State). bound_by (bound s w.seat) (entries_of w.mine)) g.moved.opening
    ∙ (ap (λ (n : ℕ). bound_by (bound v.opening n) (entries_of w.mine)) g.moved.seat
    ∙ (ap (λ (xs : List Exchange). bound_by (bound v.opening v.seat) (entries_of xs)) g.mine
    ∙ (ap (bound_by (bound v.opening v.seat)) (map-append (λ (x : Exchange). x.entry) v.mine g.steps ∙ ap (λ (z : List Entry). entries_of v.mine ++ z) (sym (alike-entries v.opening.told g.steps (kept os) g.alike)))
    ∙ (bound-append (entries_of v.mine) (entries_of (kept os)) (bound v.opening v.seat)
    ∙ ap (λ (o : Option Binding). bound_by o (entries_of (kept os))) (sym (own_bound v a)))))))

abbrev option_binding : Option Connection → Option Binding
option_binding o = option_map binding_of o

none_bound : (o : Option Connection) → is_some o ≡ false → option_binding o ≡ None
none_bound None h = refl
none_bound (Some c) h = absurd (cc)

pub not_open : (s : State) (seat : ℕ) → is_open s seat ≡ false → bound s seat ≡ None
not_open s seat h = none_bound (connection_of s.connections seat) h

some_open : (o : Option Connection) (b : Binding) → option_binding o ≡ Some b → is_some o ≡ true
some_open None b h = absurd (cc)
some_open (Some c) b h = refl

pub open_of : (c : Client) (d : Seated) → IsOpen c d → is_open (state_seen d) d.seat ≡ true
open_of c d h = some_open (connection_of (state_seen d).connections d.seat) _ h

-- requests that leave the connection leave it open
pub stays_open : (c : Client) (v w : Seated) → Known v → Known w → Lets v w → IsOpen c v → IsOpen c w
stays_open c v w a b (os, grew, plain) is =
    grew_bound v w os a b grew ∙ (ap (λ (o : Option Binding). bound_by o (entries_of (kept os))) is ∙ entries_stay (entries_of (kept os)) _ plain)

-- where none was open, Enter opens one
pub enter_opens : (who : Who) (kind : Kind) (v w : Seated) (x : Exchange) → Known v → Known w → is_open (state_seen v) v.seat ≡ false → x.entry.request ≡ Request.Enter who kind → Grew v (Made x ∷ []) w → IsBound who kind w
enter_opens who kind v w x a b closed is grew =
    grew_bound v w (Made x ∷ []) a b grew
    ∙ (ap (λ (o : Option Binding). bound_after o x.entry.request) (not_open (state_seen v) v.seat closed) ∙ ap (bound_after None) is)

-- ---- no open connection

none_open : (o : Option Connection) → option_binding o ≡ None → is_some o ≡ false
none_open None h = refl
none_open (Some c) h = absurd (cc)

unbound_closed : (d : Seated) → bound (state_seen d) d.seat ≡ None → is_open (state_seen d) d.seat ≡ false
unbound_closed d h = none_open (connection_of (state_seen d).connections d.seat) h

leave_ends : (o : Option Binding) → bound_after o Request.Leave ≡ None
leave_ends None = refl
leave_ends (Some b) = refl

-- behind a Leave
pub left_closed : (v w : Seated) (x : Exchange) → Known v → Known w → x.entry.request ≡ Request.Leave → Grew v (Made x ∷ []) w → is_open (state_seen w) w.seat ≡ false
left_closed v w x a b is grew =
    unbound_closed w (grew_bound v w (Made x ∷ []) a b grew ∙ (ap (bound_after (bound (state_seen v) v.seat)) is ∙ leave_ends (bound (state_seen v) v.seat)))

-- what is refused opens none
pub refusal_keeps_closed : (v w : Seated) (request : Request) (why : Refused) → Known v → Known w → is_open (state_seen v) v.seat ≡ false → Grew v (Denied request why ∷ []) w → is_open (state_seen w) w.seat ≡ false
refusal_keeps_closed v w request why a b closed grew = unbound_closed w (grew_bound v w (Denied request why ∷ []) a b grew ∙ not_open (state_seen v) v.seat closed)
