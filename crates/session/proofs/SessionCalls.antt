-- What the calls of a session come to.
use Rattle.std.proofs.Common.{◌≡◌, ℕ, ◌+◌, ◌≤◌, List, [], ◌++◌, length, drop, true, false, Result, Ok, Err, refl, sym, ap, ◌∙◌, subst}
use Rattle.std.specs.Prelude.{OnErr}
use Rattle.portal_base.specs.declared.who.Kind.{Kind}
use Rattle.portal_base.specs.declared.who.Who.{Who}
use Rattle.portal_model.specs.declared.reply.Refused.{Refused}
use Rattle.portal_model.specs.declared.reply.Reply.{Reply}
use Rattle.portal_model.specs.declared.request.Request.{Request}
use Rattle.portal_desk.specs.Knowing.{Known}
use Rattle.portal_model.specs.Seated.{Asks, Seated, is_open, state_seen}
use Rattle.session.specs.declared.act.Client.{Client}
use Rattle.session.specs.declared.serve.Run.{Run}
use Rattle.session.specs.declared.serve.Stage.{Stage}
use Rattle.session.specs.declared.served.Fed.{Fed}
use Rattle.session.specs.declared.served.Fed.TheVariants as fed
use Rattle.session.specs.Isolation.{IsIsolated}
use Rattle.session.specs.Ledger.{Began, Stops, World, held_after}
use Rattle.session.specs.Sessions.{Feeds, FeedsOpen, HasRoom, HoldsStill, IsBound, fed_of}
use Rattle.session.specs.Standings.{Standing, longest}
use Rattle.session.proofs.DidItems.{did_none}
use Rattle.session.proofs.Feed.{feeds_rest, takes}
use Rattle.session.proofs.Grew.{asked_err, asked_ok}
use Rattle.session.proofs.Pump.{opened}
use Rattle.session.proofs.ConnectionStaysOpen.{Lets, enter_opens, feeds_let, left_closed, refusal_keeps_closed}
use Rattle.session.proofs.OwnEntries.{enter_isolated, open_isolated, refused_isolated}

-- ---- Enter and Leave

pub enter_asked : (who : Who) (kind : Kind) (v w : Seated) (reply : Reply) → Known v → Known w → is_open (state_seen v) v.seat ≡ false → Asks v (Request.Enter who kind) (Ok reply) w → IsBound who kind w
enter_asked who kind v w reply a b closed h =
    let x = asked_ok v w (Request.Enter who kind) reply h in
    enter_opens who kind v w x.0 a b closed x.1 x.3

pub whatever_err : {X E P : Type 0} (r : Result X E) → P → OnErr r P
whatever_err (Ok x) p = tt
whatever_err (Err e) p = p

-- where Enter is refused none is open, as before
pub enter_refused : (who : Who) (kind : Kind) (v w : Seated) (why : Refused) → Known v → Known w → is_open (state_seen v) v.seat ≡ false → Asks v (Request.Enter who kind) (Err why) w → is_open (state_seen w) w.seat ≡ false
enter_refused who kind v w why a b closed h = refusal_keeps_closed v w (Request.Enter who kind) why a b closed (asked_err v w (Request.Enter who kind) why h)

-- what an application is replied to them
pub enter_asked_isolated : (who : Who) (kind : Kind) (v w : Seated) (reply : Reply) → Known v → Known w → is_open (state_seen v) v.seat ≡ false → Asks v (Request.Enter who kind) (Ok reply) w → IsIsolated who v w
enter_asked_isolated who kind v w reply a b closed h =
    let x = asked_ok v w (Request.Enter who kind) reply h in
    enter_isolated who kind v w x.0 a b closed x.1 x.3

pub enter_refused_isolated : (who : Who) (kind : Kind) (v w : Seated) (why : Refused) → Known v → Known w → Asks v (Request.Enter who kind) (Err why) w → IsIsolated who v w
enter_refused_isolated who kind v w why a b h = refused_isolated who v w (Request.Enter who kind) why a b (asked_err v w (Request.Enter who kind) why h)

pub leave_isolated : (v w : Seated) (reply : Reply) → Known v → Known w → Asks v Request.Leave (Ok reply) w → (who : Who) (kind : Kind) → IsBound who kind v → IsIsolated who v w
leave_isolated v w reply a b h who kind is =
    let x = asked_ok v w Request.Leave reply h in
    open_isolated who kind v w x.0 a b is x.3

-- Leave ends the connection
pub leave_closes : (v w : Seated) (reply : Reply) → Known v → Known w → Asks v Request.Leave (Ok reply) w → is_open (state_seen w) w.seat ≡ false
leave_closes v w reply a b h =
    let x = asked_ok v w Request.Leave reply h in
    left_closed v w x.0 a b x.1 x.3

pub left_of : (v w : Seated) (r : Result Reply Refused) → is_open (state_seen v) v.seat ≡ true → Asks v Request.Leave r w → (reply : Reply) × Asks v Request.Leave (Ok reply) w
left_of v w (Ok reply) opened h = (reply, h)
left_of v w (Err why) opened h = absurd (h.answered.no_leave refl opened)

-- ---- feed

pub began_none : (c : Client) (s : Stage) (v : World) (bytes : List ℕ) → Began c s v bytes v
began_none c s v bytes = record { front = []; after = bytes; mid = s; bytes_are = refl; did = did_none c s v }

-- a run over the rest and the piece, which was whole
pub fed_ok : (s : Standing) (v w : World) (piece : List ℕ) (run : Run) (t : Standing)
    → s.before + length s.rest + length piece ≤ longest → Stops s.client (Ok run) s.stage v (s.rest ++ piece) t.stage w
    → t.before ≡ s.before + run.len → t.rest ≡ drop run.len (s.rest ++ piece) → t.client ≡ s.client → t.fed ≡ fed_of t.before run.stop → FeedsOpen s v piece t.fed t w
fed_ok s v w piece run t room stops before left client came =
    let h = takes run.stop s v w piece run.len t stops.0 stops.1 stops.2 before left client room in
    subst (λ (r : Fed). FeedsOpen s v piece r t w) (sym came) (feeds_rest run.stop s v piece t w h came)

-- the same, halted
halt_opens : (why : Fed) (s : Standing) (v w : World) (piece : List ℕ) (t : Standing) → Stops s.client (Err why) s.stage v (s.rest ++ piece) t.stage w → t.client ≡ s.client → t.fed ≡ why → HasRoom s piece → HoldsStill s t → FeedsOpen s v piece why t w
halt_opens fed.WriteFault s v w piece t stops client came room holds = (stops.0, stops.1, (came, client), room, holds)
halt_opens fed.Memory s v w piece t stops client came room holds = (stops, (came, client), room, holds)
halt_opens fed.More s v w piece t stops client came room holds = absurd stops
halt_opens (fed.Over ending) s v w piece t stops client came room holds = absurd stops

pub fed_err : (why : Fed) (s : Standing) (v w : World) (piece : List ℕ) (t : Standing) → Stops s.client (Err why) s.stage v (s.rest ++ piece) t.stage w → t.client ≡ s.client → t.fed ≡ why → HasRoom s piece → HoldsStill s t → FeedsOpen s v piece t.fed t w
fed_err why s v w piece t stops client came room holds =
    subst (λ (r : Fed). FeedsOpen s v piece r t w) (sym came) (halt_opens why s v w piece t stops client came room holds)

-- the client, the stage and the rest of a session, in place of those within it
pub taken_of : (c d : Client) (r : Result Run Fed) (s t x : Stage) (v w : World) (held left piece after : List ℕ) → c ≡ d → s ≡ t → held ≡ left → Stops c r s v (held ++ piece) x w → after ≡ held_after r held piece
    → Stops d r t v (left ++ piece) x w × (after ≡ held_after r left piece)
taken_of c d r s t x v w held left piece after e f h k is = (
  subst (λ (z : Client). Stops z r t v (left ++ piece) x w) e (subst (λ (z : Stage). Stops c r z v (left ++ piece) x w) f (subst (λ (z : List ℕ). Stops c r s v (z ++ piece) x w) h k)),
  is ∙ ap (λ (z : List ℕ). held_after r z piece) h,
)

-- a session that goes on leaves its connection open
pub fed_lets : (s : Standing) (v w : World) (piece : List ℕ) (r : Fed) (t : Standing) → s.fed ≡ fed.More → Feeds s.fed s v piece r t w → Lets v.seated w.seated
fed_lets s v w piece r t more h = feeds_let r s v piece t w (opened s v piece r t w more h)
