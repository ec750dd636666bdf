-- Laws of cutting and of answers, which the public functions of src/laws.rt state.
use Rattle.std.specs.Prelude.{◌≡◌, ◌⊎◌, ℕ, ◌+◌, ◌*◌, ◌<◌, ◌≤◌, List, [], ◌∷◌, ◌++◌, length, map}
use Rattle.std.specs.Prelude.{Bool, Some, true}
use Rattle.std.specs.List.{All, sum_by}
use Rattle.portal_base.specs.Outside.{Short, last_count}
use Rattle.portal_model.specs.declared.entry.Entry.{Entry}
use Rattle.portal_model.specs.declared.reply.Refused.TheVariants as refused
use Rattle.portal_model.specs.declared.reply.Reply.{Reply}
use Rattle.portal_model.specs.declared.request.Request.{Request}
use Rattle.portal_model.specs.Alike.{Alike}
use Rattle.portal_model.specs.History.{cost, cost_of}
use Rattle.portal_model.specs.Seated.{Exchange, Seated, exchanges}
use Rattle.session.specs.declared.act.Act.{Act}
use Rattle.session.specs.declared.act.Client.{Client}
use Rattle.session.specs.declared.phase.Phase.{Phase}
use Rattle.session.specs.declared.served.Fed.{Fed}
use Rattle.session.specs.declared.served.Fed.TheVariants as fed
use Rattle.session.specs.declared.served.Stop.{Stop}
use Rattle.session.specs.declared.served.Stop.TheVariants as stop
use Rattle.session.specs.declared.served.Served.{Served}
use Rattle.session.specs.declared.served.Served.TheVariants as served
use Rattle.session.specs.Asked.{asked, requests_of}
use Rattle.session.specs.Items.{AreItems, Items, joined, phase_after}
use Rattle.session.specs.Answers.{Answers, AreOf, Denied, Made, Outcome, kept, told_as}
use Rattle.session.specs.Connections.{Encloses, Serves, Whole, between}
use Rattle.session.specs.Cuts.{first_phase}
use Rattle.session.specs.Hearing.{Meets}
use Rattle.session.specs.Ledger.{Grew, World}
use Rattle.session.specs.Pumps.{Spring}
use Rattle.session.specs.Sessions.{Feeds}
use Rattle.session.specs.Standings.{Standing, longest}

-- the items of a stream are one list, they ask one list, and the rest is one
abbrev pub AreOne : Type 0
AreOne = (c : Client) (p : Phase) (stream : List ℕ) (is js : List (List ℕ)) (xs ys : List Act)
    (q r : List ℕ) (x y : Stop)
    → Items c p stream is xs q x → Items c p stream js ys r y → (is ≡ js) × (xs ≡ ys) × (q ≡ r)
    × (x ≡ y)

-- each stream of bytes has items and a rest
abbrev pub ItemsAreFound : Type 0
ItemsAreFound = (c : Client) (p : Phase) (stream : List ℕ) → All (λ b. b < 256) stream
    → (items : List (List ℕ)) × (acts : List Act) × (left : List ℕ) × (what : Stop)
    × Items c p stream items acts left what

-- items that stand one after another from the front of a stream are the first of its items, and ask
-- what those ask
abbrev pub ItemsComeFirst : Type 0
ItemsComeFirst = (c : Client) (p : Phase) (stream : List ℕ) (items : List (List ℕ))
    (acts : List Act) (left : List ℕ) (what : Stop) (front : List (List ℕ)) (asked : List Act)
    (after : List ℕ)
    → Items c p stream items acts left what → stream ≡ joined front ++ after
    → AreItems c p front asked → (more : List (List ℕ)) × (later : List Act)
    × (items ≡ front ++ more) × (acts ≡ asked ++ later)

-- no more items can come
abbrev pub IsOver : Stop → Type 0
IsOver stop.More = ⊥
IsOver (stop.Bad rule) = Unit {0}
IsOver stop.TooLong = Unit {0}

-- Items that end in a broken rule or a line that is too long stay the same whatever follows.
abbrev pub EndsStay : Type 0
EndsStay = (c : Client) (p : Phase) (stream more : List ℕ) (items : List (List ℕ)) (acts : List Act)
    (left : List ℕ) (what : Stop) → Items c p stream items acts left what → IsOver what
    → Items c p (stream ++ more) items acts (left ++ more) what

-- A stream that comes in pieces, of which each is cut behind the rest of those before, up to the
-- first with which no more items can come. Those behind it aren't looked at.
abbrev pub CutBy : Client → Phase → List ℕ → List (List ℕ) → List (List ℕ) → List Act → List ℕ
    → Stop → List (List ℕ) → Type 0
CutBy c p held [] items acts left what unseen =
    (items ≡ []) × (acts ≡ []) × (left ≡ held) × (what ≡ stop.More) × (unseen ≡ [])
CutBy c p held (piece ∷ pieces) items acts left what unseen =
    (Items c p (held ++ piece) items acts left what × IsOver what × (unseen ≡ pieces))
    ⊎ ((first : List (List ℕ)) × (others : List (List ℕ)) × (first_acts : List Act)
    × (other_acts : List Act) × (mid : List ℕ)
    × (items ≡ first ++ others) × (acts ≡ first_acts ++ other_acts)
    × Items c p (held ++ piece) first first_acts mid stop.More
    × CutBy c (phase_after c p first) mid pieces others other_acts left what unseen)

-- Pieces of bytes are cut in some way. What is cut piece by piece are the items of all the pieces,
-- seen or not, and no others. So however one stream comes in pieces, its items are the same, they
-- ask the same, and the same stands behind them.
pub record AreCutAlike : Type 0 where
  pub some : (c : Client) (p : Phase) (pieces : List (List ℕ)) → All (λ b. b < 256) (joined pieces)
      → (items : List (List ℕ)) × (acts : List Act) × (left : List ℕ) × (what : Stop)
      × (unseen : List (List ℕ)) × CutBy c p [] pieces items acts left what unseen
  pub whole : (c : Client) (p : Phase) (pieces items : List (List ℕ)) (acts : List Act)
      (left : List ℕ) (what : Stop) (unseen : List (List ℕ))
      → CutBy c p [] pieces items acts left what unseen
      → Items c p (joined pieces) items acts (left ++ joined unseen) what
  pub alike : (c : Client) (p : Phase) (ps qs is js : List (List ℕ)) (xs ys : List Act)
      (q r : List ℕ) (x y : Stop) (l m : List (List ℕ))
      → joined ps ≡ joined qs → CutBy c p [] ps is xs q x l → CutBy c p [] qs js ys r y m
      → (is ≡ js) × (xs ≡ ys) × (q ++ joined l ≡ r ++ joined m) × (x ≡ y)

-- The outcomes of answers are those of what the items ask, each once, in order. With Enter ahead of
-- them and Leave behind they are those of what the connection asks.
pub record AnswerAsked : Type 0 where
  pub items : (c : Client) (serial last : ℕ) (acts : List Act) (os : List Outcome)
      (ps : List (List ℕ)) → Answers c serial acts os ps last → AreOf (requests_of acts) os
  pub connection : (c : Client) (entered leaving : Exchange) (last : ℕ) (acts : List Act)
      (os : List Outcome) (ps : List (List ℕ)) → Encloses c entered leaving
      → Answers c 0 acts os ps last
      → AreOf (asked c acts) (between entered os leaving)

-- the pieces are a function of the client, of what the items ask, of the replies, and of which
-- requests were refused, and how
abbrev pub SayAlike : Type 0
SayAlike = (c : Client) (serial m n : ℕ) (acts : List Act) (os us : List Outcome)
    (ps qs : List (List ℕ)) → map told_as os ≡ map told_as us → Answers c serial acts os ps m
    → Answers c serial acts us qs n → (ps ≡ qs) × (m ≡ n)

-- Over a tree that tells its files the entries that were made, with the replies that were given,
-- are the seat's own new exchanges, whose replies are those of the steps.
abbrev pub ToldAlike : Type 0
ToldAlike = (v w : Seated) (os : List Outcome) → Grew v os w → v.opening.told ≡ true
    → w.mine ≡ v.mine ++ kept os

-- what a request meets by the step's reply, it meets by any that is alike, over whatever tree
abbrev pub MeetsAlike : Type 0
MeetsAlike = (told : Bool) (request : Request) (stepped given : Reply)
    → Alike told request stepped given → Meets request stepped.answer → Meets request given.answer

-- a count below its last value stands still
abbrev pub StandsStill : ℕ → ℕ → Type 0
StandsStill old new = (new ≡ old) × (old < last_count)

-- Where no read and no write fails and no request is refused, an input of whole items, no more
-- bytes than a connection may have, is served to its end, unless there is no memory.
abbrev pub WholeInputsEnd : Type 0
WholeInputsEnd = (c : Client) (r : Served) (a b : Spring) (v w : World) (stream : List ℕ)
    (items : List (List ℕ)) (acts : List Act)
    → Serves c r a b v w → a.left ≡ Some stream
    → Items c (first_phase c.kind) stream items acts [] stop.More → length stream ≤ longest
    → StandsStill a.faults b.faults → StandsStill v.faults w.faults
    → StandsStill v.seated.refusals w.seated.refusals → (r ≡ served.Ended) ⊎ (r ≡ served.Memory)

-- What an ending says of the whole stream, whose bytes may not all be read: of how it is cut, and
-- of what is asked and answered. Where a read, a write or memory failed, or there are too many
-- bytes, it says nothing; EndsAs does.
abbrev pub OfStream : Client → Served → List ℕ → World → World → Type 0
OfStream c served.Ended stream v w = Whole c stream [] stop.More v w
OfStream c (served.Cut n) stream v w =
    (left : List ℕ) × (length left ≡ n) × Whole c stream left stop.More v w
OfStream c (served.Malformed at rule) stream v w =
    (left : List ℕ) × (at + length left ≡ length stream) × Whole c stream left (stop.Bad rule) v w
OfStream c (served.LineTooLong at) stream v w =
    (left : List ℕ) × (at + length left ≡ length stream) × Whole c stream left stop.TooLong v w
OfStream c served.ReadFault stream v w = Unit {0}
OfStream c served.WriteFault stream v w = Unit {0}
OfStream c served.Spent stream v w = Unit {0}
OfStream c (served.Full cost limit) stream v w = Unit {0}
OfStream c served.Memory stream v w = Unit {0}

-- The ending of a connection over a source that tells a stream, no longer than a connection may be,
-- is the stream's.
abbrev pub EndingsAreTheStreams : Type 0
EndingsAreTheStreams = (c : Client) (r : Served) (a b : Spring) (v w : World) (stream : List ℕ)
    → Serves c r a b v w → a.left ≡ Some stream → length stream ≤ longest → OfStream c r stream v w

-- the one list of bytes begins with the other
abbrev pub Begins : List ℕ → List ℕ → Type 0
Begins whole front = (more : List ℕ) × (whole ≡ front ++ more)

-- what is written in part is a prefix
abbrev pub ShortBegins : Type 0
ShortBegins = (ws ps : List (List ℕ)) → Short ws ps → Begins (joined ps) (joined ws)

-- what items ask costs the history at most eight times the bytes of the items
abbrev pub CostLittle : Type 0
CostLittle = (c : Client) (p : Phase) (items : List (List ℕ)) (acts : List Act)
    → AreItems c p items acts → sum_by cost_of (requests_of acts) ≤ 8 * length (joined items)

-- ---- room in the history

-- what is held behind a piece, where the session goes on
abbrev pub held_on : Fed → Standing → List ℕ
held_on fed.More t = t.rest
held_on r t = []

-- The items that come with a piece ask these requests, each once, and they cost at most eight times
-- the bytes that were held and the piece, but for those that are held then.
abbrev pub FeedsCostLittle : Type 0
FeedsCostLittle = (s : Standing) (v w : World) (piece : List ℕ) (r : Fed) (t : Standing)
    → Feeds fed.More s v piece r t w
    → (requests : List Request) × (outcomes : List Outcome) × AreOf requests outcomes
    × Grew v.seated outcomes w.seated
    × (sum_by cost_of requests + 8 * length (held_on r t) ≤ 8 * length (s.rest ++ piece))

-- what is the seat's own is what it made in the history
abbrev pub IsOwn : Seated → Type 0
IsOwn d = exchanges d.seat d.opening d.seen ≡ d.mine

-- what is new in the history is the seat's own
abbrev pub AskedAlone : Seated → Seated → Type 0
AskedAlone v w = (more : List Entry) × (w.seen ≡ v.seen ++ more) × All (λ e. e.seat ≡ v.seat) more

-- no request is refused for a full history
abbrev pub NoneIsFull : List Outcome → Type 0
NoneIsFull [] = Unit {0}
NoneIsFull (Made x ∷ os) = NoneIsFull os
NoneIsFull (Denied request refused.Memory ∷ os) = NoneIsFull os
NoneIsFull (Denied request (refused.Full now limit) ∷ os) = ⊥

-- Where no other seat asks, and the history has room for all of these requests, none of them is
-- refused for a full history, and it grows by no more than they cost.
abbrev pub RoomIsEnough : Type 0
RoomIsEnough = (v w : Seated) (requests : List Request) (os : List Outcome) → AreOf requests os
    → Grew v os w → IsOwn v → IsOwn w → AskedAlone v w
    → cost v.seen + sum_by cost_of requests ≤ v.opening.limits.history → NoneIsFull os
    × (cost w.seen ≤ cost v.seen + sum_by cost_of requests)
