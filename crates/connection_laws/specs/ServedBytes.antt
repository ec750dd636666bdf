-- Connections over any tree, be it one that tells its files or one that doesn't, as the real one:
-- what an application can learn by one is a function of its trace, but for the content that a READ
-- shows. The trace has what the tree showed to the application's own requests, and to no other.
use Rattle.std.specs.Prelude.{◌≡◌, ℕ, List, [], ◌∷◌, ◌++◌, length, map}
use Rattle.std.specs.List.{flat_map}
use Rattle.portal_base.specs.Outside.{onto}
use Rattle.portal_base.specs.declared.who.Kind.{Kind}
use Rattle.portal_base.specs.declared.who.Who.{Who}
use Rattle.portal_model.specs.declared.reply.Answer.{Answer}
use Rattle.portal_model.specs.declared.reply.NodeAnswer.{NodeAnswer}
use Rattle.portal_model.specs.declared.reply.Reply.{Reply}
use Rattle.portal_model.specs.Seated.{Seated}
use Rattle.served_world.specs.Laws.{but_content}
use Rattle.served_world.specs.ServedItem as item
use Rattle.served_world.specs.ServedItem.{ServedItem}
use Rattle.served_world.specs.ServedWorld.{ServedTrace, served_run, served_trace}
use Rattle.session.specs.declared.act.Act.{Act}
use Rattle.session.specs.declared.act.Act.TheVariants as act
use Rattle.session.specs.declared.act.Client.{Client}
use Rattle.session.specs.declared.served.Stop.{Stop}
use Rattle.session.specs.Answers.{Denied, Gives, Made, Outcome, kept}
use Rattle.session.specs.Connections.{Answered, EndsAs, Whole}
use Rattle.session.specs.Laws.{StandsStill}
use Rattle.session.specs.Ledger.{Grew}
use Rattle.connection_laws.specs.OwnPlaces.{at_seat}
use Rattle.connection_laws.specs.Served.{IsByStream, IsServedWhole, Service, refusals_in, replied}

-- ---- replies

-- the seats of the application's own requests, in the order of the trace
abbrev pub served_seats : List ServedItem → List ℕ
served_seats [] = []
served_seats (item.Own own ∷ more) = own.seat ∷ served_seats more
served_seats (item.Gained d rights ∷ more) = served_seats more
served_seats (item.Lost id rights ∷ more) = served_seats more
served_seats (item.Gone id ∷ more) = served_seats more

-- the application's trace, as far as a desk has seen the history
abbrev pub served_seen : List ℕ → Seated → ServedTrace
served_seen app d = served_trace app d.opening d.seen

-- what the application's own machine replies to one of its seats
abbrev pub served_to : ℕ → ServedTrace → List Reply
served_to seat t = at_seat seat (served_seats t.items) (served_run t)

abbrev pub but_contents : List Reply → List Reply
but_contents replies = map but_content replies

-- What the application's own machine replies to the connection's seat grows in the call by just the
-- replies that its client was answered by, but for the contents of READs.
abbrev pub RepliesAreOfTheServedTrace : Type 0
RepliesAreOfTheServedTrace =
    (app : List ℕ) (c : Client) (x : Service c) (outcomes : List Outcome) → c.who ≡ Who.App app →
    Grew x.before.seated outcomes x.after.seated →
    but_contents (served_to x.after.seated.seat (served_seen app x.after.seated))
    ≡ but_contents (served_to x.before.seated.seat (served_seen app x.before.seated))
    ++ but_contents (replied (kept outcomes))

-- ---- contents

-- the contents that READs show in these outcomes, in order
abbrev pub content_of : Answer → List (List ℕ)
content_of (Answer.Node (NodeAnswer.Content content)) = content ∷ []
content_of answer = []

abbrev pub content_in : Outcome → List (List ℕ)
content_in (Made x) = content_of x.reply.answer
content_in (Denied request why) = []

abbrev pub contents_in : List Outcome → List (List ℕ)
contents_in outcomes = flat_map content_in outcomes

-- those that the frame of an item shows; a line and a message show none
abbrev pub contents_shown : Act → List Outcome → List (List ℕ)
contents_shown (act.Node unique request) outcomes = contents_in outcomes
contents_shown act.Nothing outcomes = []
contents_shown (act.Line reply) outcomes = []
contents_shown (act.Call reply collects) outcomes = []
contents_shown (act.Portal call request) outcomes = []
contents_shown (act.Local unique told) outcomes = []

-- ---- the bytes of two connections

-- what became of what items ask, and the pieces that answer them
pub record Said : Type 0 where
  pub outcomes : List Outcome
  pub pieces : List (List ℕ)

abbrev pub nothing_said : Said
nothing_said = record { outcomes = []; pieces = [] }

abbrev pub then_said : Said → Said → Said
then_said s t = record { outcomes = s.outcomes ++ t.outcomes; pieces = s.pieces ++ t.pieces }

-- An item of both asks this, behind one serial. It is answered by as many pieces, and by the same
-- ones, but where its frame shows the content of a READ.
pub record ItemIsAlike (c : Client) (asks : Act) (serial : ℕ) (s t : Said) (last : ℕ)
    : Type 0 where
  pub first : Gives c asks serial s.outcomes s.pieces last
  pub second : Gives c asks serial t.outcomes t.pieces last
  pub as_many : length t.pieces ≡ length s.pieces
  pub same : contents_shown asks s.outcomes ≡ [] → t.pieces ≡ s.pieces

-- the same of items, one after another
abbrev pub ItemsAreAlike : Client → ℕ → List Act → Said → Said → Type 0
ItemsAreAlike c serial [] s t = (s ≡ nothing_said) × (t ≡ nothing_said)
ItemsAreAlike c serial (asks ∷ acts) s t =
    (one : Said) × (more : Said) × (other : Said) × (others : Said) × (mid : ℕ)
    × (s ≡ then_said one more) × (t ≡ then_said other others)
    × ItemIsAlike c asks serial one other mid × ItemsAreAlike c mid acts more others

abbrev pub said_in : (c : Client) → Answered c → Said
said_in c k = record { outcomes = k.outcomes; pieces = k.pieces }

-- The items of two connections ask the same. The replies to them are the same but for the contents
-- of READs, and so are, item by item, the pieces of bytes that answer them. On a bus all pieces are
-- the same, and on a mount where the same contents are shown.
pub record AreAnsweredAlike (c : Client) (k l : Answered c) : Type 0 where
  pub acts : l.acts ≡ k.acts
  pub replies :
      but_contents (replied (kept l.outcomes)) ≡ but_contents (replied (kept k.outcomes))
  pub items : ItemsAreAlike c 0 k.acts (said_in c k) (said_in c l)
  pub bus : c.kind ≡ Kind.Bus → l.pieces ≡ k.pieces
  pub shown : contents_in l.outcomes ≡ contents_in k.outcomes → l.pieces ≡ k.pieces

-- Two connections of one application, be it at two portals and over two trees, have one trace
-- behind them, in which they have one seat.
pub record HaveOneServedTrace (app : List ℕ) (c : Client) (x y : Service c) : Type 0 where
  pub client : c.who ≡ Who.App app
  pub seat : y.before.seated.seat ≡ x.before.seated.seat
  pub trace : served_seen app y.after.seated ≡ served_seen app x.after.seated

-- Where such two have one client's settings and read the same, and the same requests were refused
-- in the same way, the items of both are answered alike.
abbrev pub BytesAreOfTheServedTrace : Type 0
BytesAreOfTheServedTrace = (app : List ℕ) (c : Client) (x y : Service c)
    (read left rest : List ℕ) (what why : Stop) (i : Whole c read left what x.before x.after)
    (j : Whole c read rest why y.before y.after) → HaveOneServedTrace app c x y →
    refusals_in j.all.outcomes ≡ refusals_in i.all.outcomes → AreAnsweredAlike c i.all j.all

-- ---- whole streams

-- both clients are written these pieces
abbrev pub AreWritten : (c : Client) → Service c → Service c → List (List ℕ) → Type 0
AreWritten c x y pieces =
    (x.after.told ≡ onto x.before.told pieces) × (y.after.told ≡ onto y.before.told pieces)

-- Two connections ended alike, and all whole items of this stream were answered alike on both: with
-- the same pieces on a bus, and with the same on a mount where the same contents were shown.
pub record AreServedAlike (c : Client) (x y : Service c) (stream : List ℕ) : Type 0 where
  pub ended : y.ended ≡ x.ended
  pub left : List ℕ
  pub what : Stop
  pub first : Whole c stream left what x.before x.after
  pub second : Whole c stream left what y.before y.after
  pub alike : AreAnsweredAlike c first.all second.all
  pub bus : c.kind ≡ Kind.Bus → AreWritten c x y first.all.pieces
  pub shown :
      contents_in second.all.outcomes ≡ contents_in first.all.outcomes →
      AreWritten c x y first.all.pieces

-- this is all that was read; the connection ended as it says, and no request was refused
pub record HasRead (c : Client) (x : Service c) (read : List ℕ) : Type 0 where
  pub ends : EndsAs c x.ended read x.source x.source_after x.before x.after
  pub by_stream : IsByStream x.ended
  pub unrefused : StandsStill x.before.seated.refusals x.after.seated.refusals

-- Two connections of an application that have one trace, and of which no request was refused, are
-- served alike, whatever else differs between the portals: over sources that told one whole stream,
-- and over any sources of which the same was read.
pub record ServedConnectionsAreIsolated : Type 0 where
  pub stream :
      (app : List ℕ) (c : Client) (x y : Service c) (stream : List ℕ) →
      HaveOneServedTrace app c x y → IsServedWhole c x stream → IsServedWhole c y stream →
      AreServedAlike c x y stream
  pub read :
      (app : List ℕ) (c : Client) (x y : Service c) (read : List ℕ) →
      HaveOneServedTrace app c x y → HasRead c x read → HasRead c y read →
      AreServedAlike c x y read
