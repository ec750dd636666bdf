-- What a seat knows after each answer.
use Rattle.std.proofs.Common.{◌≡◌, ◌≢◌, ℕ, ◌<◌, ◌≤◌, List, [], ◌∷◌, ◌++◌, true, true≢false, Option, None, Err, is_some, refl, sym, ap, ◌∙◌, subst, arith}
use Rattle.std.proofs.lemmas.List.{append_assoc}
use Rattle.std.specs.Prelude.{IsOk}
use Rattle.atomic_table.specs.Seated.{TableId}
use Rattle.atomic_table.specs.Table.{Me}
use Rattle.portal_core.specs.Growth.{GrowsBy, RefusedFor}
use Rattle.portal_desk.specs.Opening.{IsOpeningState}
use Rattle.portal_model.specs.declared.entry.Entry.{Entry}
use Rattle.portal_model.specs.declared.reply.Refused.{Refused}
use Rattle.portal_model.specs.declared.reply.Refused.TheVariants.{Memory, Full}
use Rattle.portal_model.specs.declared.reply.Reply.{Reply}
use Rattle.portal_model.specs.declared.request.Request.{Request}
use Rattle.portal_model.specs.Alike.{Alike}
use Rattle.portal_model.specs.History.{Legal, cost, of_seat, run}
use Rattle.portal_model.specs.Seated.{BeginsWith, Exchange, HasCause, Made, bound, bound_by, exchange, exchanges, is_open, rises_by}
use Rattle.portal_model.specs.State.{State}
use Rattle.portal_model.specs.Step.{reply_at}
use Rattle.portal_model.proofs.SeatLaws.{begins-itself, exchanges-own, run-open}
use Rattle.portal_model.specs.declared.asked.Asked.TheVariants as Asked
use Rattle.turn_desk.specs.Knowing.{View}
use Rattle.turn_desk.specs.Asking.{Looks, Tries}
use Rattle.turn_desk.specs.Sights.{Sight, seated_of}
use Rattle.turn_desk.specs.Knowing.{fresh}
use Rattle.turn_desk.specs.Views.{Rests, freed, holding, looked, lost, wrote}
use Rattle.turn_desk.proofs.Fronts.{begins-longer, entries-same}

abbrev pub sight : TableId → View → ℕ → Sight
sight t v r = record { table = t; knows = v; refusals = r }

-- the view once an entry was written, and once a request was refused
abbrev pub written : View → List Entry → Entry → View
written v log e = freed (wrote (holding v log) e)

abbrev pub unwritten : View → List Entry → View
unwritten v log = freed (holding v log)

-- ---- between two calls

pub rests_fresh : (n : ℕ) (o : State) (base : List Entry) (made : ℕ) → 0 < n → IsOpeningState o → Legal o base → cost base ≤ o.limits.history → Rests (fresh n o base made)
rests_fresh n o base made live started legal within = record { sits = record { live = live; free = refl; alone = refl }; started = started; legal = legal; within = within; own = refl }

pub rests_looked : (v : View) (n : ℕ) → Rests v → Rests (looked v n)
rests_looked v n r = record { sits = record { live = r.sits.live; free = r.sits.free; alone = r.sits.alone }; started = r.started; legal = r.legal; within = r.within; own = r.own }

pub rests_lost : (v : View) (n : ℕ) → Rests v → Rests (lost v n)
rests_lost v n r = record { sits = record { live = r.sits.live; free = r.sits.free; alone = r.sits.alone }; started = r.started; legal = r.legal; within = r.within; own = r.own }

pub rests_unwritten : (v : View) (log : List Entry) → Rests v → Legal v.opening log → cost log ≤ v.opening.limits.history → exchanges v.number v.opening log ≡ v.mine → Rests (unwritten v log)
rests_unwritten v log r legal within own = record { sits = record { live = r.sits.live; free = refl; alone = r.sits.alone }; started = r.started; legal = legal; within = within; own = own }

own_written : (v : View) (log : List Entry) (e : Entry) → exchanges v.number v.opening log ≡ v.mine → e.seat ≡ v.number → exchanges v.number v.opening (log ++ e ∷ []) ≡ v.mine ++ exchange (run v.opening log) e ∷ []
own_written v log e own seat = exchanges-own v.number v.opening log e seat ∙ ap (λ (xs : List Exchange). xs ++ exchange (run v.opening log) e ∷ []) own

pub rests_written : (v : View) (log : List Entry) (e : Entry) → Rests v → Legal v.opening (log ++ e ∷ []) → cost (log ++ e ∷ []) ≤ v.opening.limits.history → exchanges v.number v.opening log ≡ v.mine → e.seat ≡ v.number → Rests (written v log e)
rests_written v log e r legal within own seat = record {
  sits = record { live = r.sits.live; free = refl; alone = r.sits.alone };
  started = r.started;
  legal = legal;
  within = within;
  own = own_written v log e own seat;
}

-- ---- the length was read

pub looks : (t t' : TableId) (v w : View) (r n : ℕ) → Rests v → t' ≡ t → w ≡ looked v n → v.known ≤ n → Looks (sight t v r) n (sight t' w r)
looks t t' v w r n rests table is read = subst (λ (z : View). Looks (sight t v r) n (sight t' z r)) (sym is) (record {
  stays = record { table = table; seat = record { number = refl; opening = refl; base = refl; made = refl }; read = read };
  loads = refl;
  known = refl;
  seen = refl;
  mine = refl;
  losses = refl;
  refusals = refl;
  free = rests.sits.free;
})

-- ---- the exchange lost

pub is_busy : (t t' : TableId) (v w : View) (r h : ℕ) (request : Request) → Rests v → t' ≡ t → w ≡ lost v h → h ≢ 0 → h ≢ v.number → h ≤ 65535 → Tries (sight t v r) request (Asked.Busy h request) (sight t' w r)
is_busy t t' v w r h request rests table is some another most = subst (λ (z : View). Tries (sight t v r) request (Asked.Busy h request) (sight t' z r)) (sym is) (record {
  stays = record { table = table; seat = record { number = refl; opening = refl; base = refl; made = refl }; read = omega arith };
  free = rests.sits.free;
  known = record { started = rests.started; legal = rests.legal; mine = rests.own };
  within = rests.within;
  moved = record { opening = refl; seat = refl; begins = begins-itself v.seen };
  told = record { losses = refl; holder_is = refl; seated = (some, most); another = another; request_is = refl; seen = refl; mine = refl; refusals = refl };
})

-- ---- an entry was written

module _ (v : View) (log : List Entry) (e : Entry) (request : Request) (reply : Reply) (begins : BeginsWith log v.seen) (seat : e.seat ≡ v.number) (asked : e.request ≡ request) (alike : Alike v.opening.told request (reply_at (run v.opening log) e) reply) where
  is_made : (t t' : TableId) (r : ℕ) → Made (seated_of (sight t v r)) (seated_of (sight t' (written v log e) r)) request reply
  is_made t t' r = record {
    entry = e;
    others = begins.0;
    seen = ap (λ (h : List Entry). h ++ e ∷ []) begins.1 ∙ append_assoc v.seen begins.0 (e ∷ []);
    seat_is = seat;
    request_is = asked;
    reply_is = subst (λ (h : List Entry). Alike v.opening.told request (reply_at (run v.opening h) e) reply) begins.1 alike;
    mine = ap (λ (h : List Entry). v.mine ++ exchange (run v.opening h) e ∷ []) begins.1;
    refusals = refl;
  }

  pub is_answered : (t t' : TableId) (w : View) (r : ℕ) → Rests v → t' ≡ t → w ≡ written v log e → Legal v.opening (log ++ e ∷ []) → cost (log ++ e ∷ []) ≤ v.opening.limits.history → exchanges v.number v.opening log ≡ v.mine →
      Tries (sight t v r) request (Asked.Answered reply) (sight t' w r)
  is_answered t t' w r rests table is legal within own = subst (λ (z : View). Tries (sight t v r) request (Asked.Answered reply) (sight t' z r)) (sym is) (record {
    stays = record { table = table; seat = record { number = refl; opening = refl; base = refl; made = refl }; read = omega arith };
    free = refl;
    known = record { started = rests.started; legal = legal; mine = own_written v log e own seat };
    within = within;
    moved = record { opening = refl; seat = refl; begins = begins-longer log v.seen e begins };
    told = (is_made t t' r, refl);
  })

-- ---- the request was refused

has_cause : (t : TableId) (v : View) (log : List Entry) (r : ℕ) (request : Request) (why : Refused) → RefusedFor v.opening log request why → HasCause (seated_of (sight t (unwritten v log) r)) request why
has_cause t v log r request Memory cause = cause
has_cause t v log r request (Full now limit) cause =
    let a = cause.0 in
    let b = cause.1 in
    let c = cause.2 in
    (a, b, omega arith)

-- whether a seat's connection is open, its own entries tell
open_same : (v : View) (log : List Entry) → Rests v → exchanges v.number v.opening log ≡ v.mine → is_open (run v.opening v.seen) v.number ≡ true → is_open (run v.opening log) v.number ≡ true
open_same v log rests own is =
    let same : of_seat v.number log ≡ of_seat v.number v.seen = entries-same v.number v.opening log v.seen (own ∙ sym rests.own) in
    run-open v.number log v.opening
    ∙ (ap (λ (h : List Entry). is_some (bound_by (bound v.opening v.number) h)) same ∙ (sym (run-open v.number v.seen v.opening) ∙ is))

pub is_refused : (t t' : TableId) (v w : View) (r r' : ℕ) (log : List Entry) (request : Request) (why : Refused) → Rests v → t' ≡ t → w ≡ unwritten v log → Legal v.opening log → cost log ≤ v.opening.limits.history → exchanges v.number v.opening log ≡ v.mine
    → BeginsWith log v.seen → RefusedFor v.opening log request why → (request ≡ Request.Leave → is_open (run v.opening log) v.number ≡ true → ⊥) → r' ≡ rises_by r 1
    → Tries (sight t v r) request (Asked.Refused why) (sight t' w r')
is_refused t t' v w r r' log request why rests table is legal within own begins cause no_leave count = subst (λ (z : View). Tries (sight t v r) request (Asked.Refused why) (sight t' z r')) (sym is) (record {
  stays = record { table = table; seat = record { number = refl; opening = refl; base = refl; made = refl }; read = omega arith };
  free = refl;
  known = record { started = rests.started; legal = legal; mine = own };
  within = within;
  moved = record { opening = refl; seat = refl; begins = begins };
  told = (
    record { refusals = count; mine = refl; cause = has_cause t' v log r' request why cause; no_leave = λ leave is_here. no_leave leave (open_same v log rests own is_here) },
    cause,
    refl,
  );
})

-- ---- the same of a call: from what it found when it took the turn, and what it gave back

module _ {S : Type 0} (t t' : TableId) (v : View) (r : ℕ) (o o' : State) (log log' : List Entry) (m m' : Me (Option S) View) (rests : Rests v) (table : t' ≡ t) (took : m ≡ (holding v log, (0, None) ∷ [])) (opening : o ≡ v.opening) (begins : BeginsWith log v.seen) (own : exchanges v.number v.opening log ≡ v.mine) (same : o' ≡ o) (legal : Legal o' log') (within : cost log' ≤ o'.limits.history) where
  pub record Answers (request : Request) (reply : Reply) : Type 0 where
    pub carried : m'.1 ≡ []
    pub number : v.number ≡ m'.0.number
    pub rest : Rests m'.0
    pub tries : Tries (sight t v r) request (Asked.Answered reply) (sight t' m'.0 r)

  pub answers : (number : ℕ) (request : Request) (reply : Reply) (says : Entry → Type 0) → number ≡ v.number → GrowsBy says o log log' number request reply → ((z : Entry) → log' ≡ m.0.found ++ z ∷ [] → m' ≡ (freed (wrote m.0 z), [])) → Answers request reply
  answers number request reply says num g gave =
      let e : Entry = g.entry in
      let after : m' ≡ (written v log e, []) =
      gave e (g.grown ∙ sym (ap (λ (z : Me (Option S) View). z.0.found ++ e ∷ []) took)) ∙ ap (λ (z : Me (Option S) View). (freed (wrote z.0 e), [])) took in
      let seat : e.seat ≡ v.number = g.seat_is ∙ num in
      let legal' : Legal v.opening (log ++ e ∷ []) = subst (λ (h : List Entry). Legal v.opening h) g.grown (subst (λ (s : State). Legal s log') (same ∙ opening) legal) in
      let within' : cost (log ++ e ∷ []) ≤ v.opening.limits.history = subst (λ (h : List Entry). cost h ≤ v.opening.limits.history) g.grown (subst (λ (s : State). cost log' ≤ s.limits.history) (same ∙ opening) within) in
      let alike : Alike v.opening.told request (reply_at (run v.opening log) e) reply = subst (λ (s : State). Alike s.told request (reply_at (run s log) e) reply) opening g.reply_is in
      let is : m'.0 ≡ written v log e = ap (λ (z : Me (Option S) View). z.0) after in
      record {
        carried = ap (λ (z : Me (Option S) View). z.1) after;
        number = sym (ap (λ (z : View). z.number) is);
        rest = subst Rests (sym is) (rests_written v log e rests legal' within' own seat);
        tries = is_answered v log e request reply begins seat g.request_is alike t t' m'.0 r rests table is legal' within' own;
      }

  pub refuses : (request : Request) (why : Refused) (r' : ℕ) (number : ℕ) → number ≡ v.number → log' ≡ log → RefusedFor o log request why → (request ≡ Request.Leave → is_open (run o log) number ≡ true → IsOk {T = Reply} (Err why)) → r' ≡ rises_by r 1 → m' ≡ (freed m.0, [])
      → Tries (sight t v r) request (Asked.Refused why) (sight t' m'.0 r')
  refuses request why r' number num kept cause leave count gave =
      let is : m'.0 ≡ unwritten v log = ap (λ (z : Me (Option S) View). z.0) gave ∙ ap (λ (z : Me (Option S) View). freed z.0) took in
      let legal' : Legal v.opening log = subst (λ (h : List Entry). Legal v.opening h) kept (subst (λ (s : State). Legal s log') (same ∙ opening) legal) in
      let within' : cost log ≤ v.opening.limits.history = subst (λ (h : List Entry). cost h ≤ v.opening.limits.history) kept (subst (λ (s : State). cost log' ≤ s.limits.history) (same ∙ opening) within) in
      let cause' : RefusedFor v.opening log request why = subst (λ (s : State). RefusedFor s log request why) opening cause in
      let leave' : request ≡ Request.Leave → is_open (run v.opening log) v.number ≡ true → ⊥ = λ l h. true≢false (sym (leave l (subst (λ (n : ℕ). is_open (run o log) n ≡ true) (sym num) (subst (λ (s : State). is_open (run s log) v.number ≡ true) (sym opening) h)))) in
      is_refused t t' v m'.0 r r' log request why rests table is legal' within' own begins cause' leave' count
