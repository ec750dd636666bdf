-- What an application's client was told up to a moment, over any tree: but for the contents of
-- READs it is a function of the trace up to that moment. What comes later doesn't bear on it, be it
-- other requests of its own or the end of a connection that failed.
use Rattle.std.specs.Prelude.{◌≡◌, ℕ, ◌-◌, ◌<◌, List, [], ◌∷◌, ◌++◌, length, take}
use Rattle.portal_base.specs.Outside.{Short}
use Rattle.portal_base.specs.declared.who.Kind.{Kind}
use Rattle.portal_base.specs.declared.who.Who.{Who}
use Rattle.portal_model.specs.declared.reply.Reply.{Reply}
use Rattle.portal_model.specs.Seated.{Exchange}
use Rattle.served_world.specs.ServedItem.{ServedItem}
use Rattle.served_world.specs.ServedWorld.{ServedTrace}
use Rattle.session.specs.declared.act.Act.{Act}
use Rattle.session.specs.declared.act.Client.{Client}
use Rattle.session.specs.Answers.{Answers, Outcome, kept}
use Rattle.session.specs.Connections.{Encloses, Half, between}
use Rattle.session.specs.Cuts.{first_phase}
use Rattle.session.specs.Items.{AreItems}
use Rattle.session.specs.Ledger.{Grew, World}
use Rattle.connection_laws.specs.Served.{Service, refusals_in, replied}
use Rattle.connection_laws.specs.ServedBytes.{ItemsAreAlike, Said, but_contents, contents_in}
use Rattle.connection_laws.specs.ServedBytes.{served_seen, served_to}
use Rattle.connection_laws.specs.SoFar.{AskedFirst}

-- ---- replies

-- a trace goes on from this front
abbrev pub ServedGoesOn : ServedTrace → ServedTrace → Type 0
ServedGoesOn whole front = (whole.opening ≡ front.opening)
    × ((more : List ServedItem) × (whole.items ≡ front.items ++ more))

-- what the application's own machine replied to a connection's seat before it was served
abbrev pub served_before : (app : List ℕ) → (c : Client) → Service c → List Reply
served_before app c x = served_to x.before.seated.seat (served_seen app x.before.seated)

-- Two connections of one application, be it at two portals and over two trees, of which the traces
-- begin with this front; in them they have one seat, to which as many replies were given before.
pub record ServedTracesBegin (app : List ℕ) (c : Client) (x y : Service c)
    (front : ServedTrace) : Type 0 where
  pub client : c.who ≡ Who.App app
  pub seat : y.before.seated.seat ≡ x.before.seated.seat
  pub places : length (served_before app c y) ≡ length (served_before app c x)
  pub first_goes : ServedGoesOn (served_seen app x.after.seated) front
  pub second_goes : ServedGoesOn (served_seen app y.after.seated) front

-- how many replies of the connection the front has
abbrev pub served_within : (app : List ℕ) → (c : Client) → Service c → ServedTrace → ℕ
served_within app c x front =
    length (served_to x.before.seated.seat front) - length (served_before app c x)

-- so many of the replies that both were given are the same, but for the contents of READs
abbrev pub ServedRepliesSoFar : Type 0
ServedRepliesSoFar = (app : List ℕ) (c : Client) (x y : Service c) (front : ServedTrace)
    (outcomes others : List Outcome) → ServedTracesBegin app c x y front →
    Grew x.before.seated outcomes x.after.seated → Grew y.before.seated others y.after.seated →
    take (served_within app c x front) (but_contents (replied (kept others)))
    ≡ take (served_within app c x front) (but_contents (replied (kept outcomes)))

-- ---- answers

-- What these items ask is the first that is asked behind Enter, and this becomes of it. The pieces
-- are those of whole answers, be they all written or not.
pub record AnsweredFirst (c : Client) (acts : List Act) (v w : World) : Type 0 where
  pub said : Said
  pub last : ℕ
  pub answers : Answers c 0 acts said.outcomes said.pieces last
  pub others : List Outcome
  pub entered : Exchange
  pub leaving : Exchange
  pub encloses : Encloses c entered leaving
  pub grew : Grew v.seated (between entered (said.outcomes ++ others) leaving) w.seated

abbrev pub said_of : List Outcome → List (List ℕ) → Said
said_of outcomes pieces = record { outcomes = outcomes; pieces = pieces }

-- the whole answers of a connection of which the last was cut
abbrev pub said_to_cut : (c : Client) (read : List ℕ) (v w : World) → Half c read v w → Said
said_to_cut c read v w k =
    said_of (k.first.outcomes ++ k.then.outcomes) (k.first.pieces ++ k.then.pieces)

-- However a connection ended: such are the answers that were written first. Where the last was cut
-- by a write that failed or by want of memory, such are all with the last one, of which a front is
-- written or nothing.
pub record AnswersComeFirst : Type 0 where
  pub whole :
      (c : Client) (acts : List Act) (v w : World) (k : AskedFirst c acts v w) →
      (a : AnsweredFirst c acts v w) × (a.said ≡ said_of k.outcomes k.pieces)
  pub cut :
      (c : Client) (read : List ℕ) (v w : World) (k : Half c read v w) →
      (a : AnsweredFirst c (k.first.acts ++ k.then.act ∷ []) v w)
      × (a.said ≡ said_to_cut c read v w k)
      × Short (k.first.pieces ++ k.then.written) a.said.pieces

-- Answers of two connections to what asks the same. The replies are the same but for the contents
-- of READs, and so are, item by item, the pieces of bytes. On a bus all pieces are the same, and on
-- a mount where the same contents are shown.
pub record AreSaidAlike (c : Client) (acts : List Act) (s t : Said) : Type 0 where
  pub replies :
      but_contents (replied (kept t.outcomes)) ≡ but_contents (replied (kept s.outcomes))
  pub items : ItemsAreAlike c 0 acts s t
  pub bus :
      (items : List (List ℕ)) → AreItems c (first_phase c.kind) items acts →
      c.kind ≡ Kind.Bus → t.pieces ≡ s.pieces
  pub shown : contents_in t.outcomes ≡ contents_in s.outcomes → t.pieces ≡ s.pieces

-- So are those of two of which the traces begin so, where the front has the replies to Enter and to
-- all of this, and the same was refused in the same way.
abbrev pub ServedBytesSoFar : Type 0
ServedBytesSoFar = (app : List ℕ) (c : Client) (x y : Service c) (front : ServedTrace)
    (acts : List Act) (i : AnsweredFirst c acts x.before x.after)
    (j : AnsweredFirst c acts y.before y.after) → ServedTracesBegin app c x y front →
    length (kept i.said.outcomes) < served_within app c x front →
    refusals_in j.said.outcomes ≡ refusals_in i.said.outcomes → AreSaidAlike c acts i.said j.said
