-- Where the history has room for all that is asked, nothing is refused for a full history.
use Rattle.std.proofs.Common.{◌≡◌, inl, inr, ℕ, ◌+◌, ◌*◌, ◌≤◌, List, [], ◌∷◌, ◌++◌, length, drop, Bool, true, cond, refl, sym, ap, ◌∙◌, subst, arith, length-append}
use Rattle.std.specs.List.{All}
use Rattle.std.proofs.Math.Seq.{drop-append_seam}
use Rattle.std.proofs.lemmas.Bool.Decides.{nat_tests}
use Rattle.std.proofs.lemmas.List.Elements.{All-head, All-tail}
use Rattle.std.proofs.lemmas.List.Sums.{sum_by-append, sum_by-cons}
use Rattle.std.specs.Prelude.{◌==◌}
use Rattle.portal_model.specs.declared.entry.Entry.{Entry}
use Rattle.portal_model.specs.declared.reply.Refused.TheVariants as refused
use Rattle.portal_model.specs.declared.request.Request.{Request}
use Rattle.portal_model.specs.History.{cost, cost_of, of_seat, run}
use Rattle.portal_model.specs.Seated.{Exchange, Seated, exchanges}
use Rattle.portal_model.specs.State.{State}
use Rattle.portal_model.proofs.SeatLaws.{exchanges-append, exchanges-entries}
use Rattle.session.specs.declared.act.Client.{Client}
use Rattle.session.specs.declared.serve.Stage.{Stage}
use Rattle.session.specs.declared.served.Fed.{Fed}
use Rattle.session.specs.declared.served.Fed.TheVariants as fed
use Rattle.session.specs.declared.served.Stop.{Stop}
use Rattle.session.specs.declared.served.Served.{Served}
use Rattle.session.specs.declared.served.Served.TheVariants as served
use Rattle.session.specs.Answers.{AreOf, Denied, IsOf, Made, Outcome, kept}
use Rattle.session.specs.Asked.{asked_by, requests_of}
use Rattle.session.specs.Laws.{AskedAlone, FeedsCostLittle, IsOwn, NoneIsFull, RoomIsEnough, held_on}
use Rattle.session.specs.Ledger.{AreCaused, Began, Broke, Did, Grew, World}
use Rattle.session.specs.Sessions.{FeedsOpen, FeedsOver, TakesUpTo}
use Rattle.session.specs.Standings.{Standing}
use Rattle.session.proofs.Grew.{alike-entries, costs_no_less, grew_none, grew_on}
use Rattle.session.proofs.AnswersAsked.{asked_go, of-append}
use Rattle.session.proofs.ConnectionStaysOpen.{entries_of}
use Rattle.session.proofs.ItemsCostLittle.{costs, costs-append, item_cost, items_cost}

-- ---- what the outcomes cost

-- what the requests cost that were refused
abbrev denied_costs : List Outcome → ℕ
denied_costs [] = 0
denied_costs (Made x ∷ os) = denied_costs os
denied_costs (Denied request why ∷ os) = cost_of request + denied_costs os

cost_one : (r : Request) (o : Outcome) (os : List Outcome) (n : ℕ) → IsOf r o → n ≡ cost (entries_of (kept os)) + denied_costs os → cost_of r + n ≡ cost (entries_of (kept (o ∷ os))) + denied_costs (o ∷ os)
cost_one r (Made x) os n h e =
    let same = ap cost_of h in
    let made : cost (entries_of (kept (Made x ∷ os))) ≡ cost_of x.entry.request + cost (entries_of (kept os)) = sum_by-cons (λ (y : Entry). cost_of y.request) x.entry (entries_of (kept os)) in
    let others : denied_costs (Made x ∷ os) ≡ denied_costs os = refl in
    omega (arith, same, made, others, e)
cost_one r (Denied asked why) os n h e =
    let same = ap cost_of h in
    let made : cost (entries_of (kept (Denied asked why ∷ os))) ≡ cost (entries_of (kept os)) = refl in
    let others : denied_costs (Denied asked why ∷ os) ≡ cost_of asked + denied_costs os = refl in
    omega (arith, same, made, others, e)

cost_parts : (rs : List Request) (os : List Outcome) → AreOf rs os → costs rs ≡ cost (entries_of (kept os)) + denied_costs os
cost_parts [] os h = sym (ap (λ (z : List Outcome). cost (entries_of (kept z)) + denied_costs z) h)
cost_parts (r ∷ rs) os (o, us, e, is, are) =
    sum_by-cons cost_of r rs ∙ (cost_one r o us (costs rs) is (cost_parts rs us are) ∙ sym (ap (λ (z : List Outcome). cost (entries_of (kept z)) + denied_costs z) e))

-- ---- the seat alone

own_all : (seat : ℕ) (h : List Entry) → All (λ e. e.seat ≡ seat) h → of_seat seat h ≡ h
own_all seat [] a = refl
own_all seat (e ∷ es) a =
    let is = All-head (λ (z : Entry). z.seat ≡ seat) e es a in
    let here : (e.seat == seat) ≡ true = grind (arith, nat_tests) in
    ap (λ (b : Bool). cond b (e ∷ of_seat seat es) (of_seat seat es)) here ∙ ap (λ (z : List Entry). e ∷ z) (own_all seat es (All-tail (λ (z : Entry). z.seat ≡ seat) e es a))

-- what is new in the history are the entries among the outcomes
new_kept : (v w : Seated) (os : List Outcome) → Grew v os w → IsOwn v → IsOwn w → (alone : AskedAlone v w) → entries_of (kept os) ≡ alone.0
new_kept v w os g a b (more, is, own) =
    let then : exchanges v.seat v.opening (v.seen ++ more) ≡ w.mine =
    ap (exchanges v.seat v.opening) (sym is)
    ∙ (ap (λ (s : State). exchanges v.seat s w.seen) (sym g.moved.opening)
    ∙ (ap (λ (n : ℕ). exchanges n w.opening w.seen) (sym g.moved.seat) ∙ b)) in
    let both : v.mine ++ exchanges v.seat (run v.opening v.seen) more ≡ v.mine ++ g.steps =
    ap (λ (z : List Exchange). z ++ exchanges v.seat (run v.opening v.seen) more) (sym a)
    ∙ (sym (exchanges-append v.seat v.seen more v.opening) ∙ (then ∙ g.mine)) in
    let same : exchanges v.seat (run v.opening v.seen) more ≡ g.steps =
    sym (drop-append_seam v.mine (exchanges v.seat (run v.opening v.seen) more)) ∙ (ap (drop (length v.mine)) both ∙ drop-append_seam v.mine g.steps) in
    alike-entries v.opening.told g.steps (kept os) g.alike ∙ (ap entries_of (sym same) ∙ (exchanges-entries v.seat more (run v.opening v.seen) ∙ own_all v.seat more own))

new_cost : (v w : Seated) (os : List Outcome) → Grew v os w → IsOwn v → IsOwn w → AskedAlone v w → cost w.seen ≡ cost v.seen + cost (entries_of (kept os))
new_cost v w os g a b alone =
    ap cost alone.1 ∙ (sum_by-append (λ (e : Entry). cost_of e.request) v.seen alone.0 ∙ ap (λ (z : List Entry). cost v.seen + cost z) (sym (new_kept v w os g a b alone)))

-- ---- the law of room

none_full : (os : List Outcome) (v w : Seated) → AreCaused v w os → cost w.seen + denied_costs os ≤ w.opening.limits.history → NoneIsFull os
none_full [] v w h room = tt
none_full (Made x ∷ os) v w h room = none_full os v w h room
none_full (Denied request refused.Memory ∷ os) v w h room = none_full os v w h.1 (omega arith)
none_full (Denied request (refused.Full now limit) ∷ os) v w ((d, before, after, cause), more) room =
    let less = costs_no_less d w after in
    let same = ap (λ z. z.limits.history) after.opening in
    let is = cause.0 in
    let at = cause.1 in
    let past = cause.2 in
    absurd (omega arith)

pub room_enough : RoomIsEnough
room_enough v w requests os are grew a b alone room =
    let parts = cost_parts requests os are in
    let grown = new_cost v w os grew a b alone in
    let limit = ap (λ z. z.limits.history) grew.moved.opening in
    (none_full os v w grew.caused (omega arith), omega arith)

-- ---- what a piece asks

-- these requests cost at most eight times so many bytes, but for so many
abbrev Costs : Seated → Seated → ℕ → ℕ → Type 0
Costs v w n k = (requests : List Request) × (outcomes : List Outcome) × AreOf requests outcomes × Grew v outcomes w × (costs requests + 8 * k ≤ 8 * n)

did_costs : (c : Client) (s t : Stage) (v w : World) (b : List ℕ) (n k : ℕ) → length b + k ≤ n → Did c s v b t w → Costs v.seated w.seated n k
did_costs c s t v w b n k within d =
    let most = items_cost d.items c s.phase d.acts d.each in
    let bytes = ap length d.bytes_are in
    (requests_of d.acts, d.outcomes, asked_go d.acts c s.serial t.serial d.outcomes d.pieces d.answers, d.grows.desk, omega arith)

broke_costs : (c : Client) (s : Stage) (v w : World) (b : List ℕ) → Broke c s v b w → Costs v.seated w.seated (length b) 0
broke_costs c s v w b k =
    let h = k.halted in
    let d = k.did in
    let most = items_cost d.items c s.phase d.acts d.each in
    let one = item_cost k.mid.phase c k.item k.act k.is_item in
    let front = ap length d.bytes_are in
    let bytes : length b ≡ length (k.front ++ (k.item ++ k.after)) = ap length k.bytes_are in
    let l1 = length-append k.front (k.item ++ k.after) in
    let l2 = length-append k.item k.after in
    let both = costs-append (requests_of d.acts) (asked_by k.act) in (
      requests_of d.acts ++ asked_by k.act,
      d.outcomes ++ h.outcomes,
      of-append (requests_of d.acts) (asked_by k.act) d.outcomes h.outcomes (asked_go d.acts c s.serial k.mid.serial d.outcomes d.pieces d.answers) h.gives.asked,
      grew_on v.seated k.then.seated w.seated d.outcomes h.outcomes d.grows.desk h.grows.desk,
      omega arith,
    )

began_costs : (c : Client) (s : Stage) (v w : World) (b : List ℕ) → Began c s v b w → Costs v.seated w.seated (length b) 0
began_costs c s v w b k =
    let bytes : length b ≡ length (k.front ++ k.after) = ap length k.bytes_are in
    did_costs c s k.mid v w k.front (length b) 0 (omega (arith, bytes, length-append k.front k.after)) k.did

none_costs : (v w : World) (n : ℕ) → w ≡ v → Costs v.seated w.seated n 0
none_costs v w n e = ([], [], refl, subst (λ (z : World). Grew v.seated [] z.seated) (sym e) (grew_none v.seated), omega arith)

-- what is held costs nothing yet
takes_costs : (what : Stop) (s : Standing) (v : World) (piece : List ℕ) (t : Standing) (w : World) (k : ℕ) → k ≤ length t.rest → TakesUpTo what s v piece t w → Costs v.seated w.seated (length (s.rest ++ piece)) k
takes_costs what s v piece t w k few h =
    let bytes : length (s.rest ++ piece) ≡ length (h.taken ++ t.rest) = ap length h.bytes in
    did_costs s.client s.stage t.stage v w h.taken (length (s.rest ++ piece)) k (omega (arith, bytes, length-append h.taken t.rest, few)) h.did

over_costs : (met : Served) (s : Standing) (v : World) (piece : List ℕ) (t : Standing) (w : World) → FeedsOver s v piece met t w → Costs v.seated w.seated (length (s.rest ++ piece)) 0
over_costs (served.Malformed at rule) s v piece t w h = takes_costs _ s v piece t w 0 (omega arith) h.0
over_costs (served.LineTooLong at) s v piece t w h = takes_costs _ s v piece t w 0 (omega arith) h.0
over_costs served.Spent s v piece t w h = none_costs v w (length (s.rest ++ piece)) h.1
over_costs served.Ended s v piece t w h = absurd h
over_costs (served.Cut n) s v piece t w h = absurd h
over_costs served.ReadFault s v piece t w h = absurd h
over_costs served.WriteFault s v piece t w h = absurd h
over_costs (served.Full cost limit) s v piece t w h = absurd h
over_costs served.Memory s v piece t w h = absurd h

fed_costs : (r : Fed) (s : Standing) (v : World) (piece : List ℕ) (t : Standing) (w : World) → FeedsOpen s v piece r t w → Costs v.seated w.seated (length (s.rest ++ piece)) (length (held_on r t))
fed_costs fed.More s v piece t w h = takes_costs _ s v piece t w (length t.rest) (omega arith) h.0
fed_costs (fed.Over met) s v piece t w h = over_costs met s v piece t w h.0
fed_costs fed.WriteFault s v piece t w h = broke_costs s.client s.stage v w (s.rest ++ piece) h.0
fed_costs fed.Memory s v piece t w (inl h, keeps, room, holds) = began_costs s.client s.stage v w (s.rest ++ piece) h
fed_costs fed.Memory s v piece t w (inr h, keeps, room, holds) = broke_costs s.client s.stage v w (s.rest ++ piece) h.0

pub feeds_cost : FeedsCostLittle
feeds_cost s v w piece r t h = fed_costs r s v piece t w h
