-- What the steps of a poll do.
use Rattle.std.specs.Prelude.{◌≡◌, ◌⊎◌, ℕ, ◌+◌, ◌<◌, ◌≤◌, List, [], ◌∷◌, ◌++◌, length, drop, Bool, true, false, Option, Some, Ok, Err, ⊤}
use Rattle.portal_base.specs.Outside.{HasRisen}
use Rattle.portal_desk.specs.Trying.{IsPutOff}
use Rattle.portal_model.specs.declared.reply.Refused.{Refused}
use Rattle.portal_model.specs.declared.reply.Reply.{Reply}
use Rattle.portal_model.specs.declared.request.Request.{Request}
use Rattle.portal_model.specs.Seated.{Asks, Seated}
use Rattle.session.specs.declared.act.Act.{Act}
use Rattle.session.specs.declared.answer.Due.{Due}
use Rattle.session.specs.declared.answer.Told.{Told}
use Rattle.session.specs.declared.served.Fed.TheVariants as fed
use Rattle.session.specs.declared.served.Served.{Served}
use Rattle.session.specs.declared.served.Served.TheVariants as served
use Rattle.session.specs.declared.served.Stop.{Stop}
use Rattle.session.specs.Answers.{AreOf, Outcome, last_spoken, pieces_of, serial_past, spoken}
use Rattle.session.specs.Asked.{asked_by}
use Rattle.session.specs.Connections.{served_by}
use Rattle.session.specs.Dues.{frames_due, said_of}
use Rattle.session.specs.Items.{joined}
use Rattle.session.specs.Lacks.{MayLack}
use Rattle.session.specs.Ledger.{Grew}
use Rattle.session.specs.Sessions.{enter, fed_of}
use Rattle.poll_steps.specs.declared.ask.Next.{Next}
use Rattle.poll_steps.specs.declared.ask.Next.TheVariants as next
use Rattle.poll_laws.specs.declared.course.Turn.{Turn}
use Rattle.poll_laws.specs.declared.course.Turn.TheVariants as turn
use Rattle.poll_steps.specs.declared.read.Taken.{Taken}
use Rattle.poll_steps.specs.declared.read.Taken.TheVariants as taken
use Rattle.poll_steps.specs.declared.send.Flushed.{Flushed}
use Rattle.poll_steps.specs.declared.send.Flushed.TheVariants as flushed
use Rattle.session.specs.Pumps.{longest_piece}
use Rattle.session.specs.Standings.{longest}
use Rattle.poll_ends.specs.Outside.{Counts, Faulted, Waited, appended}
use Rattle.poll_laws.specs.Courses.{Sight, Standing}
use Rattle.poll_laws.specs.Polls.{Deeds, EndsAs, IsIdle, ReadsAlone, Runs}

-- ---- sending

-- of these bytes some were written, and these are left
pub record Sent (old : List ℕ) (told : Option (List ℕ)) (rest : List ℕ) (told' : Option (List ℕ))
    : Type 0 where
  pub written : List ℕ
  pub bytes : old ≡ written ++ rest
  pub went_out : told' ≡ appended told written

abbrev pub Flushes : List ℕ → Option (List ℕ) → Counts → Flushed → List ℕ → Option (List ℕ)
    → Counts → Type 0
Flushes old told counts flushed.All new told' counts' =
    (new ≡ []) × Sent old told new told' × (counts' ≡ counts)
Flushes old told counts flushed.NotYet new told' counts' =
    Sent old told new told' × Waited counts counts'
Flushes old told counts flushed.Failed new told' counts' =
    ((rest : List ℕ) × Sent old told rest told') × Faulted counts counts'

abbrev pub IfFlushWaits : Flushed → Type 0 → Type 0
IfFlushWaits flushed.All P = ⊤
IfFlushWaits flushed.NotYet P = P
IfFlushWaits flushed.Failed P = ⊤

-- ---- asking

-- an ending was met, and Leave is due
abbrev pub MeetsOne : Standing → Sight → Sight → List ℕ → List Outcome → Type 0
MeetsOne t v w passed came =
    (e : Served) × (t.turn ≡ turn.Leave e) × EndsAs e t v w passed came

-- what became of the next item: it was asked and answered; there is none; the desk was busy; or an
-- ending was met
abbrev pub NextIs : Next → Standing → Sight → Deeds → Standing → Sight → Type 0
NextIs next.Asked s v d t w = (t.turn ≡ turn.Serve) × (length t.left < length s.left)
NextIs next.NoItem s v d t w = (t.turn ≡ turn.Serve) × IsIdle t
NextIs next.Busy s v d t w = (t.turn ≡ turn.Serve) × HasRisen v.busy w.busy
NextIs next.Met s v d t w = MeetsOne t v w d.passed d.came

-- nothing was read
abbrev pub AsksNext : Next → Standing → Sight → Standing → Sight → Type 0
AsksNext found s v t w =
    (d : Deeds) × (d.read ≡ []) × Runs s v d t w × NextIs found s v d t w

-- ---- the parts of asking

-- the same but for what is done next
abbrev pub turned : Standing → Turn → Standing
turned s next_turn = record s { turn = next_turn }

-- no item stands at the front: the connection ends there, or there are too few bytes
abbrev pub Stops : Next → Stop → Standing → Standing → Type 0
Stops next.Met what s t =
    (e : Served) × (fed_of s.before what ≡ fed.Over e) × (t ≡ turned s (turn.Leave e))
Stops next.NoItem what s t = ((e : Served) → fed_of s.before what ≡ fed.Over e → ⊥) × (t ≡ s)
Stops next.Asked what s t = ⊥
Stops next.Busy what s t = ⊥

-- all but the last serial and what is unsent is the same
pub record IsAside (s t : Standing) : Type 0 where
  pub client : t.client ≡ s.client
  pub phase : t.stage.phase ≡ s.stage.phase
  pub turn_is : t.turn ≡ s.turn
  pub before : t.before ≡ s.before
  pub left : t.left ≡ s.left

-- what answers an item is unsent, and the last serial is its
abbrev pub Says : Bool → Due → Told → Standing → Standing → Type 0
Says true d told s t = (t.stage.serial ≡ last_spoken s.stage.serial (said_of s.client d told))
    × (t.unsent ≡ joined (frames_due d told ++ spoken s.stage.serial (said_of s.client d told)))
Says false d told s t = Unit {0}

-- the desk was busy: nothing was asked
pub record IsAway (request : Option Request) (a : Seated) (n : ℕ) (b : Seated) (m : ℕ)
    : Type 0 where
  pub asked : Request
  pub is : request ≡ Some asked
  pub off : IsPutOff a asked asked b
  pub busy : n ≤ m
  pub risen : HasRisen n m

-- what an item of so many bytes asks was asked
pub record ActDone (act : Act) (len : ℕ) (s : Standing) (a : Seated) (n : ℕ) (t : Standing)
    (b : Seated) (m : ℕ) : Type 0 where
  pub outcomes : List Outcome
  pub each : AreOf (asked_by act) outcomes
  pub grew : Grew a outcomes b
  pub busy : m ≡ n
  pub client : t.client ≡ s.client
  pub phase : t.stage.phase ≡ s.stage.phase
  pub left : t.left ≡ drop len s.left
  pub before : t.before ≡ s.before + len

-- an item asks one request
abbrev pub AsksOne : Act → Type 0
AsksOne act = (request : Request) × (asked_by act ≡ request ∷ [])

-- what became of it: it was answered; the desk was busy, and all is as it was; or there was no
-- memory, to ask it or for an answer that isn't sure of it
abbrev pub ActIs : Next → Act → ℕ → Standing → Seated → ℕ → Standing → Seated → ℕ → Type 0
ActIs next.Asked act len s a n t b m = (h : ActDone act len s a n t b m) × (t.turn ≡ turn.Serve)
    × (t.stage.serial ≡ serial_past s.client act s.stage.serial h.outcomes)
    × (t.unsent ≡ joined (pieces_of s.client act s.stage.serial h.outcomes))
ActIs next.Busy act len s a n t b m = (request : Request) × (asked_by act ≡ request ∷ [])
    × IsPutOff a request request b × (n ≤ m) × HasRisen n m × (t ≡ s)
ActIs next.Met act len s a n t b m =
    (AsksOne act × (b ≡ a) × (m ≡ n) × (t ≡ turned s (turn.Leave served.Memory)))
    ⊎ ((h : ActDone act len s a n t b m) × (t.turn ≡ turn.Leave served.Memory)
    × MayLack act h.outcomes)
ActIs next.NoItem act len s a n t b m = ⊥

-- ---- Enter and Leave

-- Enter was answered, or refused, or there was no memory to ask it; or the desk was busy
abbrev pub Enters : Standing → Seated → ℕ → Standing → Seated → ℕ → Type 0
Enters s a n t b m =
    ((reply : Reply) × Asks a (enter s.client) (Ok reply) b × (m ≡ n) × (t ≡ turned s turn.Serve))
    ⊎ (((why : Refused) × Asks a (enter s.client) (Err why) b × (m ≡ n)
    × (t ≡ turned s (turn.Over (served_by why))))
    ⊎ (((b ≡ a) × (m ≡ n) × (t ≡ turned s (turn.Over served.Memory)))
    ⊎ (IsPutOff a (enter s.client) (enter s.client) b × (n ≤ m) × HasRisen n m × (t ≡ s))))

-- Leave was answered; or the desk was busy
abbrev pub Leaves : Served → Standing → Seated → ℕ → Standing → Seated → ℕ → Type 0
Leaves e s a n t b m =
    ((reply : Reply) × Asks a Request.Leave (Ok reply) b × (m ≡ n) × (t ≡ turned s (turn.Over e)))
    ⊎ (IsPutOff a Request.Leave Request.Leave b × (n ≤ m) × HasRisen n m × (t ≡ s))

-- ---- reading

-- what a read came to: so many bytes came and are held; nothing came yet, and all is as it was; or
-- an ending was met
abbrev pub TakenIs : Taken → Standing → Sight → Deeds → Standing → Sight → Type 0
TakenIs (taken.Got n) s v d t w =
    (t.turn ≡ turn.Serve) × (1 ≤ n) × (n ≤ longest_piece) × (length d.read ≡ n)
TakenIs taken.NotYet s v d t w =
    (t ≡ s) × (d.read ≡ []) × HasRisen v.reading.waits w.reading.waits
TakenIs taken.Met s v d t w = MeetsOne t v w d.passed d.came

abbrev pub IfTakenWaits : Taken → Type 0 → Type 0
IfTakenWaits (taken.Got n) P = ⊤
IfTakenWaits taken.NotYet P = P
IfTakenWaits taken.Met P = ⊤

-- a piece is held behind what is left; or there were too many bytes with it, or no memory
abbrev pub Holds : Taken → Standing → List ℕ → Standing → Type 0
Holds (taken.Got n) s piece t = (n ≡ length piece) × (t ≡ record s { left = s.left ++ piece })
    × (s.before + length s.left + length piece ≤ longest)
Holds taken.NotYet s piece t = ⊥
Holds taken.Met s piece t = (t ≡ turned s (turn.Leave served.Memory))
    ⊎ ((longest < s.before + length s.left + length piece)
    × (t ≡ turned s (turn.Leave served.Spent)))

abbrev pub Takes : Taken → Standing → Sight → Standing → Sight → Type 0
Takes found s v t w = (d : Deeds) × Runs s v d t w × TakenIs found s v d t w
    × ((d.read ≡ []) ⊎ ReadsAlone s d)
