-- Where the history has room for what bytes can ask, nothing is refused for a full history.
use Rattle.std.proofs.Common.{◌≡◌, ℕ, ◌+◌, ◌*◌, ◌≤◌, List, [], ◌++◌, length, refl, sym, ap, subst, inl, inr, arith, length-append}
use Rattle.portal_base.specs.Devices.{SinkState}
use Rattle.portal_steps.specs.Story.{limit_of}
use Rattle.portal_model.specs.declared.request.Request.{Request}
use Rattle.portal_model.specs.History.{cost}
use Rattle.portal_model.specs.Seated.{Seated}
use Rattle.session.specs.declared.act.Client.{Client}
use Rattle.session.specs.declared.serve.Stage.{Stage}
use Rattle.session.specs.declared.served.Fed.{Fed}
use Rattle.session.specs.declared.served.Fed.TheVariants as fed
use Rattle.session.specs.declared.served.Stop.{Stop}
use Rattle.session.specs.declared.served.Served.{Served}
use Rattle.session.specs.declared.served.Served.TheVariants as served
use Rattle.session.specs.Answers.{AreOf, Outcome}
use Rattle.session.specs.Asked.{asked_by, requests_of}
use Rattle.session.specs.Ledger.{Broke, Did, Grew, World}
use Rattle.session.specs.Sessions.{Feeds, FeedsOver, TakesUpTo}
use Rattle.session.specs.Standings.{Standing}
use Rattle.session.proofs.Grew.{grew_none, grew_on}
use Rattle.session.proofs.AnswersAsked.{asked_go, of-append}
use Rattle.session.proofs.RoomIsEnough.{room_enough}
use Rattle.session.proofs.ItemsCostLittle.{costs, costs-append, item_cost, items_cost}
use Rattle.portal_core.specs.Chain.{answered}
use Rattle.script_replay.specs.Scenes.{ScriptPortal}
use Rattle.script_replay.specs.Seats.{Alone, Unfilled, known_at, outcomes_of, outcomes_over, sunk}

-- these became of some requests, which cost at most eight times so many bytes
record Costs (v w : Seated) (n : ℕ) (outcomes : List Outcome) : Type 0 where
  pub requests : List Request
  pub are : AreOf requests outcomes
  pub grew : Grew v outcomes w
  pub little : costs requests ≤ 8 * n

did_costs : (c : Client) (s t : Stage) (v w : World) (b : List ℕ) (n : ℕ) → length b ≤ n → (d : Did c s v b t w) → Costs v.seated w.seated n d.outcomes
did_costs c s t v w b n within d =
    let most = items_cost d.items c s.phase d.acts d.each in
    let bytes = ap length d.bytes_are in
    record { requests = requests_of d.acts; are = asked_go d.acts c s.serial t.serial d.outcomes d.pieces d.answers; grew = d.grows.desk; little = omega arith }

broke_costs : (c : Client) (s : Stage) (v w : World) (b : List ℕ) → (k : Broke c s v b w) → Costs v.seated w.seated (length b) (k.did.outcomes ++ k.halted.outcomes)
broke_costs c s v w b k =
    let h = k.halted in
    let d = k.did in
    let most = items_cost d.items c s.phase d.acts d.each in
    let one = item_cost k.mid.phase c k.item k.act k.is_item in
    let front = ap length d.bytes_are in
    let bytes : length b ≡ length (k.front ++ (k.item ++ k.after)) = ap length k.bytes_are in
    let l1 = length-append k.front (k.item ++ k.after) in
    let l2 = length-append k.item k.after in
    let both = costs-append (requests_of d.acts) (asked_by k.act) in
    record {
      requests = requests_of d.acts ++ asked_by k.act;
      are = of-append (requests_of d.acts) (asked_by k.act) d.outcomes h.outcomes (asked_go d.acts c s.serial k.mid.serial d.outcomes d.pieces d.answers) h.gives.asked;
      grew = grew_on v.seated k.then.seated w.seated d.outcomes h.outcomes d.grows.desk h.grows.desk;
      little = omega arith;
    }

none_costs : (v w : World) (n : ℕ) → w ≡ v → Costs v.seated w.seated n []
none_costs v w n e = record { requests = []; are = refl; grew = subst (λ (z : World). Grew v.seated [] z.seated) (sym e) (grew_none v.seated); little = omega arith }

takes_costs : (what : Stop) (s : Standing) (v : World) (piece : List ℕ) (t : Standing) (w : World) → (h : TakesUpTo what s v piece t w) → Costs v.seated w.seated (length (s.rest ++ piece)) h.did.outcomes
takes_costs what s v piece t w h =
    let bytes : length (s.rest ++ piece) ≡ length (h.taken ++ t.rest) = ap length h.bytes in
    did_costs s.client s.stage t.stage v w h.taken (length (s.rest ++ piece)) (omega (arith, bytes, length-append h.taken t.rest)) h.did

over_costs : (met : Served) (s : Standing) (v : World) (piece : List ℕ) (t : Standing) (w : World) → (h : FeedsOver s v piece met t w) → Costs v.seated w.seated (length (s.rest ++ piece)) (outcomes_over met s v piece t w h)
over_costs (served.Malformed at rule) s v piece t w h = takes_costs _ s v piece t w h.0
over_costs (served.LineTooLong at) s v piece t w h = takes_costs _ s v piece t w h.0
over_costs served.Spent s v piece t w h = none_costs v w (length (s.rest ++ piece)) h.1
over_costs served.Ended s v piece t w h = absurd h
over_costs (served.Cut n) s v piece t w h = absurd h
over_costs served.ReadFault s v piece t w h = absurd h
over_costs served.WriteFault s v piece t w h = absurd h
over_costs (served.Full full limit) s v piece t w h = absurd h
over_costs served.Memory s v piece t w h = absurd h

-- what a piece asks costs at most eight times its bytes with those ahead of them
fed_costs : (r : Fed) (s : Standing) (v : World) (piece : List ℕ) (t : Standing) (w : World) → (h : Feeds fed.More s v piece r t w) → Costs v.seated w.seated (length (s.rest ++ piece)) (outcomes_of r s v piece t w h)
fed_costs fed.More s v piece t w h = takes_costs _ s v piece t w h.0
fed_costs (fed.Over met) s v piece t w h = over_costs met s v piece t w h.0
fed_costs fed.WriteFault s v piece t w h = broke_costs s.client s.stage v w (s.rest ++ piece) h.0
fed_costs fed.Memory s v piece t w (inl k, keeps, room, holds) =
    let bytes : length (s.rest ++ piece) ≡ length (k.front ++ k.after) = ap length k.bytes_are in
    did_costs s.client s.stage k.mid v w k.front (length (s.rest ++ piece)) (omega (arith, bytes, length-append k.front k.after)) k.did
fed_costs fed.Memory s v piece t w (inr k, keeps, room, holds) = broke_costs s.client s.stage v w (s.rest ++ piece) k.0

pub unfilled_at : (p q : ScriptPortal) (seat refusals : ℕ) (at now : Standing) (bytes : List ℕ) (sink sink' : SinkState) (r : Fed) → Alone seat refusals p q → at.fed ≡ fed.More
    → cost p.story.history + 8 * length (at.rest ++ bytes) ≤ limit_of p.story → Feeds at.fed at (sunk (known_at p seat 0) sink) bytes r now (sunk (known_at q seat refusals) sink') → Unfilled p q seat at bytes now refusals
unfilled_at p q seat refusals at now bytes sink sink' r own goes room feeds =
    let v = sunk (known_at p seat 0) sink in
    let w = sunk (known_at q seat refusals) sink' in
    let f : Feeds fed.More at v bytes r now w = subst (λ (z : Fed). Feeds z at v bytes r now w) goes feeds in
    let k = fed_costs r at v bytes now w f in
    let most = k.little in
    let e = room_enough v.seated w.seated k.requests (outcomes_of r at v bytes now w f) k.are k.grew refl refl (answered own.asked, own.grows.grown, own.grows.own) (omega arith) in
    let grown = e.1 in
    record { came = r; first = sink; last = sink'; feeds = f; none_full = e.0; grown = omega arith }
