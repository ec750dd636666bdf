-- What polls do.
use Rattle.std.specs.Prelude.{◌≡◌, ◌⊎◌, ℕ, ◌+◌, ◌<◌, ◌≤◌, List, [], ◌∷◌, ◌++◌, length, Bool, true, Option, Some, None, IfSome}
use Rattle.futures.specs.declared.task.Poll.{Poll}
use Rattle.futures.specs.declared.task.Poll.TheVariants as poll
use Rattle.portal_base.specs.Outside.{behind, HasRisen}
use Rattle.portal_model.specs.declared.reply.Refused.TheVariants as refused
use Rattle.session.specs.declared.act.Act.{Act}
use Rattle.session.specs.declared.act.Client.{Client}
use Rattle.session.specs.declared.served.Served.{Served}
use Rattle.session.specs.declared.served.Served.TheVariants as served
use Rattle.session.specs.declared.served.Stop.TheVariants as stop
use Rattle.session.specs.Answers.{Answers, Denied, Outcome, pieces_of}
use Rattle.session.specs.Cuts.{Cuts, no_item}
use Rattle.session.specs.Items.{AreItems, Remains, joined, phase_after}
use Rattle.session.specs.Lacks.{MayLack}
use Rattle.session.specs.Ledger.{Grew}
use Rattle.session.specs.Pumps.{longest_piece}
use Rattle.session.specs.Sessions.{enter}
use Rattle.session.specs.Standings.{longest}
use Rattle.poll_laws.specs.declared.course.Turn.TheVariants as turn
use Rattle.poll_ends.specs.Outside.{NoneFalls, appended}
use Rattle.poll_laws.specs.Courses.{Around, EndsOutside, IsUnentered, Sight, Standing, met_by, place_of}

-- ---- what is done

-- At these endings what is written may end anywhere, and nothing more is written.
abbrev pub IsWhole : Option Served → Type 0
IsWhole (Some served.WriteFault) = ⊥
IsWhole (Some served.Memory) = ⊥
IsWhole met = Unit {0}

-- At these endings the last bytes that were read may not be held.
abbrev pub IsHeld : Option Served → Type 0
IsHeld (Some served.Spent) = ⊥
IsHeld (Some served.Memory) = ⊥
IsHeld met = Unit {0}

-- no count falls
pub record Counted (v w : Sight) : Type 0 where
  pub busy : v.busy ≤ w.busy
  pub reading : NoneFalls v.reading w.reading
  pub writing : NoneFalls v.writing w.writing

-- What was done: the bytes that were read; the items that were asked, what they ask, and what
-- became of that; all that was asked, with Enter and Leave; the pieces that answer the items; the
-- bytes that were written; and those that were read and are passed over.
pub record Deeds : Type 0 where
  pub read : List ℕ
  pub items : List (List ℕ)
  pub acts : List Act
  pub outcomes : List Outcome
  pub came : List Outcome
  pub pieces : List (List ℕ)
  pub written : List ℕ
  pub passed : List ℕ

-- each list followed by that of what was done then
abbrev pub followed_by : Deeds → Deeds → Deeds
followed_by d e = record {
  read = d.read ++ e.read;
  items = d.items ++ e.items;
  acts = d.acts ++ e.acts;
  outcomes = d.outcomes ++ e.outcomes;
  came = d.came ++ e.came;
  pieces = d.pieces ++ e.pieces;
  written = d.written ++ e.written;
  passed = e.passed ++ d.passed;
}

-- The answer to the last item is unsaid, which is none that is sure of the memory for it. All else
-- that answers the items is written.
pub record IsUnsaid (c : Client) (rest : List ℕ) (d : Deeds) : Type 0 where
  pub before : List Act
  pub last : Act
  pub outcomes : List Outcome
  pub serial : ℕ
  pub pieces : List (List ℕ)
  pub acts : d.acts ≡ before ++ last ∷ []
  pub said : d.pieces ≡ pieces ++ pieces_of c last serial outcomes
  pub rest_is : rest ≡ joined (pieces_of c last serial outcomes)
  pub lacks : MayLack last outcomes

-- nothing is read, asked of items or written
pub record IsBlank (d : Deeds) : Type 0 where
  pub read : d.read ≡ []
  pub items : d.items ≡ []
  pub pieces : d.pieces ≡ []
  pub written : d.written ≡ []
  pub passed : d.passed ≡ []

-- the same, and the ending stays
pub record IsStill (d : Deeds) (e : Served) (after : Option Served) : Type 0 where
  pub read : d.read ≡ []
  pub items : d.items ≡ []
  pub pieces : d.pieces ≡ []
  pub written : d.written ≡ []
  pub passed : d.passed ≡ []
  pub stays : after ≡ Some e

-- From one state of a session to another this was done. Of what was left and what was read the
-- first items were asked, each once, in order; what wasn't asked is left, but for bytes that were
-- passed over. The outcomes at the desk are those of the items, with Enter's and Leave's. What was
-- unsent and what answers these items is what was written, and then what is unsent. Before Enter is
-- answered nothing is done but to ask it, and once an ending is met nothing but for Leave. Where
-- want of memory is met, all that answers the items is written, or all but the answer to the last.
pub record Runs (s : Standing) (v : Sight) (d : Deeds) (t : Standing) (w : Sight) : Type 0 where
  pub last : ℕ
  pub rest : List ℕ
  pub client : t.client ≡ s.client
  pub around : Around s.client (place_of s.turn) d.came d.outcomes (place_of t.turn)
  pub grew : Grew v.seated d.came w.seated
  pub came_in : v.left ≡ behind d.read w.left
  pub bytes : s.left ++ d.read ≡ joined d.items ++ (t.left ++ d.passed)
  pub before : t.before ≡ s.before + length (joined d.items)
  pub each : AreItems s.client s.stage.phase d.items d.acts
  pub phase : t.stage.phase ≡ phase_after s.client s.stage.phase d.items
  pub answers : Answers s.client s.stage.serial d.acts d.outcomes d.pieces last
  pub output : s.unsent ++ joined d.pieces ≡ d.written ++ rest
  pub went_out : w.told ≡ appended v.told d.written
  pub whole : IsWhole (met_by t.turn) → (rest ≡ t.unsent) × (last ≡ t.stage.serial)
  pub held : IsHeld (met_by t.turn) → d.passed ≡ []
  pub within : s.before + length s.left ≤ longest → t.before + length t.left ≤ longest
  pub outside : IsUnentered s.client (place_of s.turn) d.came → IsBlank d
  pub unentered : (e : Served) → IsUnentered s.client (place_of s.turn) d.came
      → met_by t.turn ≡ Some e → EndsOutside s.client d.came e
  pub unsaid : met_by s.turn ≡ None → met_by t.turn ≡ Some served.Memory
      → (rest ≡ []) ⊎ IsUnsaid s.client rest d
  pub still : (e : Served) → met_by s.turn ≡ Some e → IsStill d e (met_by t.turn)
  pub counted : Counted v w

-- ---- endings

-- no whole item is left, and nothing is unsent
abbrev pub IsIdle : Standing → Type 0
IsIdle t = Cuts t.stage.phase t.left (no_item stop.More) × (t.unsent ≡ [])

-- A piece is read, and nothing else is done: no ending was met yet, no whole item was left, nor one
-- that breaks a rule, and nothing was unsent.
abbrev pub ReadsAlone : Standing → Deeds → Type 0
ReadsAlone s d =
    (met_by s.turn ≡ None) × IsIdle s × (d.items ≡ []) × (d.came ≡ []) × (d.written ≡ [])

-- a step: nothing is read in it, or nothing but one piece
pub record IsStep (s : Standing) (v : Sight) (d : Deeds) (t : Standing) (w : Sight) : Type 0 where
  pub runs : Runs s v d t w
  pub reads : (d.read ≡ []) ⊎ ReadsAlone s d

-- these steps, and a last one
abbrev pub InSteps : List Deeds → Standing → Sight → Deeds → Standing → Sight → Type 0
InSteps [] s v d t w = IsStep s v d t w
InSteps (a ∷ later) s v d t w = (e : Deeds) × (m : Standing) × (u : Sight)
    × IsStep s v a m u × (d ≡ followed_by a e) × InSteps later m u e t w

-- What was done is steps, one after another: so no piece is read while anything is unsent, ahead of
-- an item that is whole, or once an ending is met.
abbrev pub InOrder : Standing → Sight → Deeds → Standing → Sight → Type 0
InOrder s v d t w = (steps : List Deeds) × InSteps steps s v d t w

-- nothing is told to come
abbrev pub IsDry : Sight → Type 0
IsDry w = IfSome w.left (λ left. left ≡ [])

-- What each ending means at the poll that meets it: of the session after it, of what is around it
-- before and after, of the bytes that were passed over, and of what was asked. At Spent the piece
-- that came is passed over, and what was left ahead of it is left, without a whole item. Full comes
-- only where Enter was refused so.
abbrev pub EndsAs : Served → Standing → Sight → Sight → List ℕ → List Outcome → Type 0
EndsAs served.Ended t v w passed came = IsDry w × (t.left ≡ []) × IsIdle t
EndsAs (served.Cut n) t v w passed came =
    IsDry w × (1 ≤ n) × (n ≡ length t.left) × IsIdle t
EndsAs (served.Malformed at rule) t v w passed came =
    (at ≡ t.before) × Remains t.client t.stage.phase t.left (stop.Bad rule) × (t.unsent ≡ [])
EndsAs (served.LineTooLong at) t v w passed came =
    (at ≡ t.before) × Remains t.client t.stage.phase t.left stop.TooLong × (t.unsent ≡ [])
EndsAs served.ReadFault t v w passed came = HasRisen v.reading.faults w.reading.faults × IsIdle t
EndsAs served.WriteFault t v w passed came = HasRisen v.writing.faults w.writing.faults
EndsAs served.Spent t v w passed came = (longest < t.before + length t.left + length passed)
    × (length passed ≤ longest_piece) × IsIdle t
EndsAs (served.Full cost limit) t v w passed came = ((before : List Outcome)
    × (after : List Outcome)
    × (came ≡ before ++ Denied (enter t.client) (refused.Full cost limit) ∷ after))
    × (t.left ≡ []) × IsIdle t
EndsAs served.Memory t v w passed came = length passed ≤ longest_piece

-- an ending is met only so
abbrev pub Meets : Option Served → Option Served → Standing → Sight → Sight → List ℕ
    → List Outcome → Type 0
Meets None (Some e) t v w passed came = EndsAs e t v w passed came
Meets None None t v w passed came = Unit {0}
Meets (Some e) after t v w passed came = Unit {0}

-- ---- one poll

-- how many bytes are read in a poll, until it yields
abbrev pub most_read : ℕ
most_read = 1048576

-- Why a poll is pending: the desk was busy, and the poll yields; the sink takes nothing yet; or no
-- whole item is left and nothing is unsent, and the source has nothing yet, or gave as many bytes
-- as a poll reads, and the poll yields.
abbrev pub Waits : Sight → Sight → Standing → List ℕ → Bool → Type 0
Waits v w t read yields = (HasRisen v.busy w.busy × (yields ≡ true))
    ⊎ (HasRisen v.writing.waits w.writing.waits
    ⊎ ((HasRisen v.reading.waits w.reading.waits
    ⊎ ((most_read ≤ length read) × (yields ≡ true))) × IsIdle t))

-- the answer of a poll: how the connection ended once it is over, and else it is pending
abbrev pub Answered : Poll Served → Sight → Sight → Standing → List ℕ → Bool → Type 0
Answered (poll.Ready ending) v w t read yields = t.turn ≡ turn.Over ending
Answered poll.Pending v w t read yields =
    Waits v w t read yields × ((e : Served) → t.turn ≡ turn.Over e → ⊥)

-- a poll, that yields or doesn't
pub record Polls (answer : Poll Served) (s : Standing) (v : Sight) (t : Standing) (w : Sight)
    (yields : Bool) : Type 0 where
  pub deeds : Deeds
  pub runs : Runs s v deeds t w
  pub order : InOrder s v deeds t w
  pub meets : Meets (met_by s.turn) (met_by t.turn) t v w deeds.passed deeds.came
  pub answered : Answered answer v w t deeds.read yields
