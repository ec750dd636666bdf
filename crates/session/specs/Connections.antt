-- What a connection came to, of all that was read.
use Rattle.std.specs.Prelude.{◌≡◌, ◌⊎◌, ℕ, ◌+◌, ◌<◌, ◌≤◌, List, [], ◌∷◌, ◌++◌, length}
use Rattle.portal_base.specs.Outside.{behind, HasRisen, Short}
use Rattle.portal_model.specs.declared.reply.Refused.{Refused}
use Rattle.portal_model.specs.declared.reply.Refused.TheVariants as refused
use Rattle.portal_model.specs.declared.request.Request.{Request}
use Rattle.portal_model.specs.Seated.{Exchange, HasCause}
use Rattle.session.specs.declared.act.Act.{Act}
use Rattle.session.specs.declared.act.Client.{Client}
use Rattle.session.specs.declared.phase.Phase.{Phase}
use Rattle.session.specs.declared.served.Stop.{Stop}
use Rattle.session.specs.declared.served.Stop.TheVariants as stop
use Rattle.session.specs.declared.served.Served.{Served}
use Rattle.session.specs.declared.served.Served.TheVariants as served
use Rattle.session.specs.Cuts.{first_phase}
use Rattle.session.specs.Items.{IsItem, AreItems, Items, joined, phase_after}
use Rattle.session.specs.Answers.{Outcome, Made, Denied, Gives, Answers}
use Rattle.session.specs.Lacks.{MayLack}
use Rattle.session.specs.Ledger.{World, Grows}
use Rattle.session.specs.Pumps.{CameLast, Spring, IsDry, longest_piece}
use Rattle.session.specs.Sessions.{enter}
use Rattle.session.specs.Standings.{longest}

-- the outcomes of Enter, of these requests, and of Leave
abbrev pub between : Exchange → List Outcome → Exchange → List Outcome
between entered outcomes left = Made entered ∷ (outcomes ++ Made left ∷ [])

-- Enter and Leave are made.
abbrev pub Encloses : Client → Exchange → Exchange → Type 0
Encloses c entered left = (entered.entry.request ≡ enter c) × (left.entry.request ≡ Request.Leave)

-- all that the desk was asked has these outcomes, with an Enter ahead of them and a Leave behind,
-- and these pieces were written
pub record Enclosed (c : Client) (outcomes : List Outcome) (pieces : List (List ℕ))
    (v w : World) : Type 0 where
  pub entered : Exchange
  pub leaving : Exchange
  pub encloses : Encloses c entered leaving
  pub grows : Grows v (between entered outcomes leaving) pieces w

-- the first items of a connection, which are asked and answered
pub record Answered (c : Client) : Type 0 where
  pub items : List (List ℕ)
  pub acts : List Act
  pub outcomes : List Outcome
  pub pieces : List (List ℕ)
  pub last : ℕ
  pub each : AreItems c (first_phase c.kind) items acts
  pub answers : Answers c 0 acts outcomes pieces last

-- Between Enter and Leave all whole items of what was read, no more bytes than a connection may
-- have, are asked and answered, and behind them stands the rest, which is this. No write failed.
pub record Whole (c : Client) (read left : List ℕ) (what : Stop) (v w : World) : Type 0 where
  pub room : length read ≤ longest
  pub all : Answered c
  pub cut : Items c (first_phase c.kind) read all.items all.acts left what
  pub asked : Enclosed c all.outcomes all.pieces v w
  pub sound : w.faults ≡ v.faults

-- Between Enter and Leave some items of what was read are asked and answered, and nothing more is
-- done. No write failed.
pub record Front (c : Client) (read : List ℕ) (v w : World) : Type 0 where
  pub room : length read ≤ longest
  pub first : Answered c
  pub after : List ℕ
  pub bytes : read ≡ joined first.items ++ after
  pub asked : Enclosed c first.outcomes first.pieces v w
  pub sound : w.faults ≡ v.faults

-- an item that is asked where this is due and this was the last serial, and answered in part
pub record InPart (c : Client) (p : Phase) (serial : ℕ) : Type 0 where
  pub item : List ℕ
  pub act : Act
  pub outcomes : List Outcome
  pub pieces : List (List ℕ)
  pub written : List (List ℕ)
  pub last : ℕ
  pub is_item : IsItem c p item act
  pub gives : Gives c act serial outcomes pieces last
  pub short : Short written pieces

-- Between Enter and Leave some items of what was read are asked and answered, and then one more is
-- asked, and answered in part.
pub record Half (c : Client) (read : List ℕ) (v w : World) : Type 0 where
  pub room : length read ≤ longest
  pub first : Answered c
  pub then : InPart c (phase_after c (first_phase c.kind) first.items) first.last
  pub after : List ℕ
  pub bytes : read ≡ joined first.items ++ (then.item ++ after)
  pub asked : Enclosed c (first.outcomes ++ then.outcomes) (first.pieces ++ then.written) v w

-- The same, and nothing of the last answer is written, and no write failed. What was asked last is
-- none that is sure of the memory for its answer.
abbrev pub HalfUnsaid : Client → List ℕ → World → World → Type 0
HalfUnsaid c read v w =
    (h : Half c read v w) × (h.then.written ≡ []) × (w.faults ≡ v.faults)
    × MayLack h.then.act h.then.outcomes

-- Nothing was read or written, and no read or write failed.
abbrev pub IsUntouched : List ℕ → Spring → Spring → World → World → Type 0
IsUntouched read a b v w = (read ≡ []) × (b ≡ a) × (w.told ≡ v.told) × (w.faults ≡ v.faults)

-- Enter was refused so, and nothing else was done.
abbrev pub IsRefused : Client → Refused → List ℕ → Spring → Spring → World → World → Type 0
IsRefused c why read a b v w = IsUntouched read a b v w × Grows v (Denied (enter c) why ∷ []) [] w
    × HasCause w.seated (enter c) why

-- What each ending means: of what was read, of the source before and after, and of the desk and the
-- sink before and after. Where the session is over, it wasn't so ahead of the last piece.
abbrev pub EndsAs : Client → Served → List ℕ → Spring → Spring → World → World → Type 0
-- the input ended between items
EndsAs c served.Ended read a b v w = IsDry b × Whole c read [] stop.More v w
-- the input ended inside one, of which so many bytes came
EndsAs c (served.Cut n) read a b v w =
    IsDry b × (1 ≤ n) × ((left : List ℕ) × (length left ≡ n) × Whole c read left stop.More v w)
-- the item at this byte breaks this rule first
EndsAs c (served.Malformed at rule) read a b v w = (left : List ℕ)
    × (at + length left ≡ length read) × Whole c read left (stop.Bad rule) v w × CameLast c read
-- the line at this byte is too long
EndsAs c (served.LineTooLong at) read a b v w = (left : List ℕ) × (at + length left ≡ length read)
    × Whole c read left stop.TooLong v w × CameLast c read
-- a read failed, and all that was whole by then is answered
EndsAs c served.ReadFault read a b v w =
    HasRisen a.faults b.faults × ((left : List ℕ) × Whole c read left stop.More v w)
-- a write failed
EndsAs c served.WriteFault read a b v w =
    HasRisen v.faults w.faults × Half c read v w × CameLast c read
-- a piece came with which there are too many bytes, and nothing of it is looked at
EndsAs c served.Spent read a b v w = (longest < length read)
    × ((before : List ℕ) × (piece : List ℕ) × (left : List ℕ) × (read ≡ before ++ piece)
    × (length piece ≤ longest_piece) × Whole c before left stop.More v w)
-- the history has no room for Enter
EndsAs c (served.Full cost limit) read a b v w = IsRefused c (refused.Full cost limit) read a b v w
-- there was no memory: to ask Enter, for Enter, ahead of an item, or for its answer
EndsAs c served.Memory read a b v w =
    ((IsUntouched read a b v w × (w.seated ≡ v.seated)) ⊎ IsRefused c refused.Memory read a b v w)
    ⊎ ((Front c read v w ⊎ HalfUnsaid c read v w) × CameLast c read)

-- A read that failed is told: at any other ending none did.
abbrev pub CountsReads : Served → Spring → Spring → Type 0
CountsReads served.Ended a b = b.faults ≡ a.faults
CountsReads (served.Cut n) a b = b.faults ≡ a.faults
CountsReads (served.Malformed at rule) a b = b.faults ≡ a.faults
CountsReads (served.LineTooLong at) a b = b.faults ≡ a.faults
CountsReads served.ReadFault a b = a.faults ≤ b.faults
CountsReads served.WriteFault a b = b.faults ≡ a.faults
CountsReads served.Spent a b = b.faults ≡ a.faults
CountsReads (served.Full cost limit) a b = b.faults ≡ a.faults
CountsReads served.Memory a b = b.faults ≡ a.faults

-- What was read stood ahead of what is left, and the ending means what it says of it.
abbrev pub Serves : Client → Served → Spring → Spring → World → World → Type 0
Serves c r a b v w =
    (read : List ℕ) × (a.left ≡ behind read b.left) × CountsReads r a b × EndsAs c r read a b v w

abbrev pub served_by : Refused → Served
served_by refused.Memory = served.Memory
served_by (refused.Full cost limit) = served.Full cost limit
