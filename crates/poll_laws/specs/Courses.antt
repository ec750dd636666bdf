-- What contracts see of a session that is polled, and of what it stands between.
use Rattle.std.specs.Prelude.{◌≡◌, ◌⊎◌, ℕ, List, [], ◌∷◌, ◌++◌, Bool, true, false, Option, Some, None}
use Rattle.portal_base.specs.declared.who.Kind.{Kind}
use Rattle.portal_model.specs.declared.reply.Refused.{Refused}
use Rattle.portal_model.specs.declared.request.Request.{Request}
use Rattle.portal_model.specs.Seated.{Exchange, Seated, is_open, state_seen}
use Rattle.session.specs.declared.act.Client.{Client}
use Rattle.session.specs.declared.phase.Phase.{Phase}
use Rattle.session.specs.declared.phase.Phase.TheVariants as due
use Rattle.session.specs.declared.serve.Stage.{Stage}
use Rattle.session.specs.declared.served.Served.{Served}
use Rattle.session.specs.declared.served.Served.TheVariants as served
use Rattle.session.specs.Answers.{Outcome, Made, Denied}
use Rattle.session.specs.Connections.{Encloses, between, served_by}
use Rattle.session.specs.Sessions.{enter}
use Rattle.session.specs.Standings.{first_stage}
use Rattle.poll_laws.specs.declared.course.Course.{Course}
use Rattle.poll_laws.specs.declared.course.Turn.{Turn}
use Rattle.poll_laws.specs.declared.course.Turn.TheVariants as turn
use Rattle.poll_ends.specs.Outside.{Counts}

-- ---- the session

-- the client, how far its stream has come, what is done next, how many bytes stood ahead of those
-- that were read and aren't asked yet, these, and the bytes that the sink hasn't taken yet
pub record Standing : Type 0 where
  pub client : Client
  pub stage : Stage
  pub turn : Turn
  pub before : ℕ
  pub left : List ℕ
  pub unsent : List ℕ

abbrev pub standing : Course → Standing
standing c = record {
  client = c.client;
  stage = c.stage;
  turn = c.turn;
  before = c.before;
  left = c.left.items;
  unsent = c.unsent.items;
}

-- a session before its first poll
abbrev pub fresh : Client → Standing
fresh c = record {
  client = c;
  stage = first_stage c;
  turn = turn.Enter;
  before = 0;
  left = [];
  unsent = [];
}

-- the ending that was met, if one was
abbrev pub met_by : Turn → Option Served
met_by turn.Enter = None
met_by turn.Serve = None
met_by (turn.Leave ending) = Some ending
met_by (turn.Over ending) = Some ending

-- ---- around it

-- what the desk knows, its count of Busy answers, what the source has left, what the sink took, and
-- the counts of both
pub record Sight : Type 0 where
  pub seated : Seated
  pub busy : ℕ
  pub left : Option (List ℕ)
  pub reading : Counts
  pub told : Option (List ℕ)
  pub writing : Counts

abbrev pub sight : Seated → ℕ → Option (List ℕ) → Counts → Option (List ℕ) → Counts → Sight
sight seated busy left reading told writing = record {
  seated = seated;
  busy = busy;
  left = left;
  reading = reading;
  told = told;
  writing = writing;
}

-- ---- Enter and Leave

-- whether the seat has its connection: not yet, now, or no more
pub data Place : Type 0 where
  Outside : Place
  Inside : Place
  Gone : Place

abbrev pub place_of : Turn → Place
place_of turn.Enter = Outside
place_of turn.Serve = Inside
place_of (turn.Leave ending) = Inside
place_of (turn.Over ending) = Gone

-- Enter was refused, or there was no memory to ask it
abbrev pub Unentered : Client → List Outcome → List Outcome → Type 0
Unentered c came os =
    (os ≡ []) × ((came ≡ []) ⊎ ((why : Refused) × (came ≡ Denied (enter c) why ∷ [])))

-- How a connection ends whose Enter wasn't answered: for want of memory where it wasn't asked, and
-- else as it was refused.
abbrev pub EndsOutside : Client → List Outcome → Served → Type 0
EndsOutside c came e = ((came ≡ []) × (e ≡ served.Memory))
    ⊎ ((why : Refused) × (came ≡ Denied (enter c) why ∷ []) × (e ≡ served_by why))

-- no more was asked than an Enter that was refused
abbrev pub IsUnentered : Client → Place → List Outcome → Type 0
IsUnentered c Outside came =
    (came ≡ []) ⊎ ((why : Refused) × (came ≡ Denied (enter c) why ∷ []))
IsUnentered c Inside came = ⊥
IsUnentered c Gone came = ⊥

-- All that was asked has these outcomes: those of the items, Enter's ahead of them where it was
-- answered, and Leave's behind them where that was.
abbrev pub Around : Client → Place → List Outcome → List Outcome → Place → Type 0
Around c Outside came os Outside = (came ≡ []) × (os ≡ [])
Around c Outside came os Inside =
    (x : Exchange) × (x.entry.request ≡ enter c) × (came ≡ Made x ∷ os)
Around c Outside came os Gone = Unentered c came os
    ⊎ ((x : Exchange) × (l : Exchange) × Encloses c x l × (came ≡ between x os l))
Around c Inside came os Outside = ⊥
Around c Inside came os Inside = came ≡ os
Around c Inside came os Gone =
    (l : Exchange) × (l.entry.request ≡ Request.Leave) × (came ≡ os ++ Made l ∷ [])
Around c Gone came os Outside = ⊥
Around c Gone came os Inside = ⊥
Around c Gone came os Gone = (came ≡ []) × (os ≡ [])

-- ---- the connection

-- the seat has no connection before Enter and behind Leave, and between them one
abbrev pub is_inside : Turn → Bool
is_inside turn.Enter = false
is_inside turn.Serve = true
is_inside (turn.Leave ending) = true
is_inside (turn.Over ending) = false

abbrev pub Fits : Turn → Seated → Type 0
Fits x d = is_open (state_seen d) d.seat ≡ is_inside x

-- what is due first
abbrev pub is_first : Phase → Kind → Bool
is_first due.ZeroByte Kind.Bus = true
is_first due.ZeroByte Kind.Mount = false
is_first (due.Handshake h) k = false
is_first due.Messages k = false
is_first due.Frames Kind.Bus = false
is_first due.Frames Kind.Mount = true

-- nothing came, and nothing is unsent
abbrev pub IsFresh : Standing → Type 0
IsFresh s = (is_first s.stage.phase s.client.kind ≡ true) × (s.stage.serial ≡ 0)
    × (s.before ≡ 0) × (s.left ≡ []) × (s.unsent ≡ [])
