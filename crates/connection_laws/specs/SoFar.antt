-- What an application's client was told up to a moment is a function of the trace up to that
-- moment: what comes later doesn't bear on it, be it other requests of its own or the end of a
-- connection that failed.
use Rattle.std.specs.Prelude.{◌≡◌, ℕ, ◌-◌, ◌<◌, List, ◌++◌, length, take}
use Rattle.portal_model.specs.Seated.{Exchange}
use Rattle.app_world.specs.TraceItem.{TraceItem}
use Rattle.app_world.specs.World.{Trace}
use Rattle.session.specs.declared.act.Act.{Act}
use Rattle.session.specs.declared.act.Client.{Client}
use Rattle.session.specs.declared.served.Stop.{Stop}
use Rattle.session.specs.Answers.{Answers, Outcome, kept}
use Rattle.session.specs.Connections.{Enclosed, Front, Half, Whole}
use Rattle.session.specs.Ledger.{World}
use Rattle.connection_laws.specs.OwnPlaces.{replies_to}
use Rattle.connection_laws.specs.Served.{IsOf, Service, refusals_in, replied, replies_seen, trace_seen}

-- a trace goes on from this front
abbrev pub GoesOn : Trace → Trace → Type 0
GoesOn whole front = (whole.opening ≡ front.opening)
    × ((more : List TraceItem) × (whole.items ≡ front.items ++ more))

-- Two connections of one application, be it at two portals, of which the traces begin with this
-- front; in them they have one seat, to which as many replies were given before.
pub record TracesBegin (app : List ℕ) (c : Client) (x y : Service c) (front : Trace)
    : Type 0 where
  pub first : IsOf app c x
  pub second : IsOf app c y
  pub seat : y.before.seated.seat ≡ x.before.seated.seat
  pub places : length (replies_seen app y.before.seated)
      ≡ length (replies_seen app x.before.seated)
  pub first_goes : GoesOn (trace_seen app x.after.seated) front
  pub second_goes : GoesOn (trace_seen app y.after.seated) front

-- how many replies of the connection the front has
abbrev pub replies_within : (app : List ℕ) → (c : Client) → Service c → Trace → ℕ
replies_within app c x front =
    length (replies_to x.before.seated.seat front) - length (replies_seen app x.before.seated)

-- so many replies to both are the same
abbrev pub RepliesSoFar : Type 0
RepliesSoFar = (app : List ℕ) (c : Client) (x y : Service c) (front : Trace)
    (made others : List Exchange) → TracesBegin app c x y front →
    x.after.seated.mine ≡ x.before.seated.mine ++ made →
    y.after.seated.mine ≡ y.before.seated.mine ++ others →
    take (replies_within app c x front) (replied others)
    ≡ take (replies_within app c x front) (replied made)

-- ---- bytes

-- What these items ask is the first that is asked behind Enter, and is answered by these pieces,
-- which are the first that are written.
pub record AskedFirst (c : Client) (acts : List Act) (v w : World) : Type 0 where
  pub outcomes : List Outcome
  pub pieces : List (List ℕ)
  pub last : ℕ
  pub answers : Answers c 0 acts outcomes pieces last
  pub others : List Outcome
  pub behind : List (List ℕ)
  pub asked : Enclosed c (outcomes ++ others) (pieces ++ behind) v w

-- however a connection ended whose Enter was made
pub record ItemsAreAskedFirst : Type 0 where
  pub whole : (c : Client) (read left : List ℕ) (what : Stop) (v w : World)
      (k : Whole c read left what v w) → AskedFirst c k.all.acts v w
  pub front : (c : Client) (read : List ℕ) (v w : World) (k : Front c read v w)
      → AskedFirst c k.first.acts v w
  pub half : (c : Client) (read : List ℕ) (v w : World) (k : Half c read v w)
      → AskedFirst c k.first.acts v w
  pub fewer : (c : Client) (acts more : List Act) (v w : World)
      → AskedFirst c (acts ++ more) v w → AskedFirst c acts v w

-- Where both ask the same first, of which the same was refused in the same way, and the front has
-- the replies to Enter and to all of this, they are answered by the same pieces of bytes.
abbrev pub BytesSoFar : Type 0
BytesSoFar = (app : List ℕ) (c : Client) (x y : Service c) (front : Trace) (acts : List Act)
    (i : AskedFirst c acts x.before x.after) (j : AskedFirst c acts y.before y.after) →
    TracesBegin app c x y front → length (kept i.outcomes) < replies_within app c x front →
    refusals_in j.outcomes ≡ refusals_in i.outcomes → j.pieces ≡ i.pieces
