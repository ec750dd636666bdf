-- Connections that were served, and what an application can learn by one: its replies and its bytes
-- are functions of the application's trace.
use Rattle.std.specs.Prelude.{◌≡◌, ◌≤◌, ℕ, List, ◌++◌, length, map, true, false, Option, Some, None}
use Rattle.portal_base.specs.Outside.{onto}
use Rattle.portal_base.specs.declared.who.Who.{Who}
use Rattle.portal_model.specs.declared.reply.Refused.{Refused}
use Rattle.portal_model.specs.declared.reply.Reply.{Reply}
use Rattle.portal_desk.specs.Knowing.{Known}
use Rattle.portal_model.specs.Seated.{Exchange, Seated, is_open, state_seen}
use Rattle.app_world.specs.World.{Trace, trace}
use Rattle.session.specs.declared.act.Client.{Client}
use Rattle.session.specs.declared.served.Served.{Served}
use Rattle.session.specs.declared.served.Served.TheVariants as served
use Rattle.session.specs.declared.served.Stop.{Stop}
use Rattle.session.specs.Answers.{Outcome, Made, Denied, kept}
use Rattle.session.specs.Connections.{Serves, Whole}
use Rattle.session.specs.Laws.{StandsStill}
use Rattle.session.specs.Ledger.{Grew, World}
use Rattle.session.specs.Pumps.{Spring}
use Rattle.session.specs.Standings.{longest}
use Rattle.connection_laws.specs.OwnPlaces.{replies_to}

-- ---- one connection

-- A connection of this client that was served: how it ended, and the source, the desk and the sink
-- before and after, as `serve_connection` says of them.
pub record Service (c : Client) : Type 0 where
  pub ended : Served
  pub source : Spring
  pub source_after : Spring
  pub before : World
  pub after : World
  pub serves : Serves c ended source source_after before after
  pub known_before : Known before.seated
  pub known : Known after.seated
  pub closed : is_open (state_seen before.seated) before.seated.seat ≡ false

-- its client is this application, and the tree of the portal tells its files
abbrev pub IsOf : List ℕ → (c : Client) → Service c → Type 0
IsOf app c x = (c.who ≡ Who.App app) × (x.before.seated.opening.told ≡ true)

-- the application's trace, as far as a desk has seen the history: its other connections are in it
abbrev pub trace_seen : List ℕ → Seated → Trace
trace_seen app d = trace app d.opening d.seen

-- what the application's own machine replies to the seat of a desk
abbrev pub replies_seen : List ℕ → Seated → List Reply
replies_seen app d = replies_to d.seat (trace_seen app d)

abbrev pub replied : List Exchange → List Reply
replied xs = map (λ x. x.reply) xs

-- ---- replies

-- What the application's own machine replies to the connection's seat grows in the call by just the
-- replies that were given: those to the seat's new exchanges, which are those that the client was
-- answered by.
pub record RepliesAreOfTheTrace : Type 0 where
  pub new : (app : List ℕ) (c : Client) (x : Service c) (made : List Exchange) → IsOf app c x →
      x.after.seated.mine ≡ x.before.seated.mine ++ made →
      replies_seen app x.after.seated ≡ replies_seen app x.before.seated ++ replied made
  pub given : (app : List ℕ) (c : Client) (x : Service c) (outcomes : List Outcome) → IsOf app c x →
      Grew x.before.seated outcomes x.after.seated →
      replies_seen app x.after.seated ≡ replies_seen app x.before.seated ++ replied (kept outcomes)

-- ---- bytes

-- which requests were refused, and how
abbrev pub refusal_in : Outcome → Option Refused
refusal_in (Made x) = None
refusal_in (Denied request why) = Some why

abbrev pub refusals_in : List Outcome → List (Option Refused)
refusals_in outcomes = map refusal_in outcomes

-- Two connections of one application, be it at two portals, have one trace behind them, in which
-- they have one seat.
pub record HaveOneTrace (app : List ℕ) (c : Client) (x y : Service c) : Type 0 where
  pub first : IsOf app c x
  pub second : IsOf app c y
  pub seat : y.before.seated.seat ≡ x.before.seated.seat
  pub trace : trace_seen app y.after.seated ≡ trace_seen app x.after.seated

-- Where such two have one client's settings and read the same, and the same requests were refused
-- in the same way, what answers the items of both are the same pieces of bytes.
abbrev pub BytesAreOfTheTrace : Type 0
BytesAreOfTheTrace = (app : List ℕ) (c : Client) (x y : Service c) (read left rest : List ℕ)
    (what why : Stop) (i : Whole c read left what x.before x.after)
    (j : Whole c read rest why y.before y.after) → HaveOneTrace app c x y →
    refusals_in j.all.outcomes ≡ refusals_in i.all.outcomes → j.all.pieces ≡ i.all.pieces

-- ---- whole streams

-- the connection ended as its stream says
abbrev pub IsByStream : Served → Type 0
IsByStream served.Ended = Unit {0}
IsByStream (served.Cut n) = Unit {0}
IsByStream (served.Malformed at rule) = Unit {0}
IsByStream (served.LineTooLong at) = Unit {0}
IsByStream served.ReadFault = ⊥
IsByStream served.WriteFault = ⊥
IsByStream served.Spent = ⊥
IsByStream (served.Full cost limit) = ⊥
IsByStream served.Memory = ⊥

-- over a source that told this stream, and no request was refused
pub record IsServedWhole (c : Client) (x : Service c) (stream : List ℕ) : Type 0 where
  pub told : x.source.left ≡ Some stream
  pub short : length stream ≤ longest
  pub by_stream : IsByStream x.ended
  pub unrefused : StandsStill x.before.seated.refusals x.after.seated.refusals

-- Two connections of an application that have one trace, and were served one whole stream, end
-- alike, and their clients are written the same: whatever else differs between the portals.
abbrev pub ConnectionsAreIsolated : Type 0
ConnectionsAreIsolated = (app : List ℕ) (c : Client) (x y : Service c) (stream : List ℕ) →
    HaveOneTrace app c x y → IsServedWhole c x stream → IsServedWhole c y stream →
    (y.ended ≡ x.ended) × ((pieces : List (List ℕ))
    × (x.after.told ≡ onto x.before.told pieces) × (y.after.told ≡ onto y.before.told pieces))
