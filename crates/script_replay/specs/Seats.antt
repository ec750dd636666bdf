-- What the sessions of a script ask of its portal.
use Rattle.std.specs.Prelude.{◌≡◌, ℕ, ◌+◌, ◌*◌, ◌≤◌, Bool, true, false, List, [], ◌++◌, length}
use Rattle.std.specs.Prelude.{Option, Some, Result}
use Rattle.std.proofs.Common.{inl, inr}
use Rattle.portal_base.specs.Devices.{SinkState}
use Rattle.portal_base.specs.Outside.{Shows}
use Rattle.host_tree.specs.Devices.{tree_of}
use Rattle.portal_steps.specs.Answered.{Spends, Went}
use Rattle.portal_core.specs.Chain.{Chain, refused}
use Rattle.portal_core.specs.Lending.{GrowsByOwn, seated_at}
use Rattle.portal_steps.specs.Story.{state_first, state_now}
use Rattle.portal_model.specs.declared.entry.Entry.{Entry}
use Rattle.portal_model.specs.declared.request.Request.{Request}
use Rattle.portal_model.specs.History.{cost}
use Rattle.portal_model.specs.Seated.{Seated, rises_by}
use Rattle.record_keeper.specs.Devices.{keeper_of}
use Rattle.session.specs.declared.served.Fed.{Fed}
use Rattle.session.specs.declared.served.Fed.TheVariants as fed
use Rattle.session.specs.declared.served.Stop.{Stop}
use Rattle.session.specs.declared.served.Stop.TheVariants as stop
use Rattle.session.specs.declared.served.Served.{Served}
use Rattle.session.specs.declared.served.Served.TheVariants as served
use Rattle.session.specs.Answers.{Outcome}
use Rattle.session.specs.Laws.{NoneIsFull}
use Rattle.session.specs.Ledger.{World, world}
use Rattle.session.specs.Sessions.{Feeds, FeedsOver}
use Rattle.session.specs.Standings.{Standing}
use Rattle.script_replay.specs.declared.error.LineError.{LineError}
use Rattle.script_replay.specs.declared.error.LineError.TheVariants as not_run
use Rattle.script_replay.specs.Entries.{AreGiven}
use Rattle.script_replay.specs.Lines.{Hears}
use Rattle.script_replay.specs.Scenes.{ScriptPortal, outside_at}

-- what a seat knows that has a portal alone
abbrev pub known_at : ScriptPortal → ℕ → ℕ → Seated
known_at p seat refusals = seated_at (state_first p.story) p.story.history seat refusals

-- such a seat, and a sink in memory
abbrev pub sunk : Seated → SinkState → World
sunk d sink = world d (Some sink.pieces) sink.faults

-- a reading of the clock, which was set
abbrev pub clock_of : ℕ → ℕ → ℕ → Type 0
clock_of old seconds new = Shows old seconds new

-- the words to come
abbrev pub words_of : List ℕ → Option (List ℕ)
words_of words = Some words

-- only this seat asked, and so many of its requests were refused: its entries are new in the
-- history, and of each of them, one after another, the portal says what its devices went through
pub record Alone (seat refusals : ℕ) (old new : ScriptPortal) : Type 0 where
  pub asked : List (Result Entry Request)
  pub grows : GrowsByOwn seat asked old.story.history new.story.history
  pub count : refusals ≡ rises_by 0 (refused asked)
  pub chain : Chain (Went tree_of keeper_of clock_of words_of)
      (Spends tree_of keeper_of clock_of words_of) old asked new

-- these requests of a seat, and no others, are new in the history, and the devices went through
-- them
pub record Asked (old new : ScriptPortal) (seat : ℕ) (requests : List Request) : Type 0 where
  pub entries : List Entry
  pub given : AreGiven (state_now old.story) (outside_at old) seat requests entries (outside_at new)
  pub history : new.story.history ≡ old.story.history ++ entries

-- bytes were heard on a connection, and what they ask was asked: its entries are those that the
-- answers are made of
abbrev pub HearsAt : ScriptPortal → ScriptPortal → ℕ → Standing → List ℕ → Stop
    → List (List ℕ) → Standing → Type 0
HearsAt old new seat at bytes what pieces now =
    (requests : List Request)
    × (heard : Hears (state_now old.story) (outside_at old) seat at bytes what requests pieces now)
    × (asked : Asked old new seat requests) × (asked.entries ≡ heard.entries)

-- what became of what was asked by a piece that ends a connection
abbrev pub outcomes_over : (met : Served) (s : Standing) (v : World) (piece : List ℕ) (t : Standing)
    (w : World) → FeedsOver s v piece met t w → List Outcome
outcomes_over (served.Malformed at rule) s v piece t w h = h.0.did.outcomes
outcomes_over (served.LineTooLong at) s v piece t w h = h.0.did.outcomes
outcomes_over served.Spent s v piece t w h = []
outcomes_over served.Ended s v piece t w h = []
outcomes_over (served.Cut n) s v piece t w h = []
outcomes_over served.ReadFault s v piece t w h = []
outcomes_over served.WriteFault s v piece t w h = []
outcomes_over (served.Full full limit) s v piece t w h = []
outcomes_over served.Memory s v piece t w h = []

-- and by any piece: for its whole items, and for one that was asked and not answered whole
abbrev pub outcomes_of : (r : Fed) (s : Standing) (v : World) (piece : List ℕ) (t : Standing)
    (w : World) → Feeds fed.More s v piece r t w → List Outcome
outcomes_of fed.More s v piece t w h = h.0.did.outcomes
outcomes_of (fed.Over met) s v piece t w h = outcomes_over met s v piece t w h.0
outcomes_of fed.WriteFault s v piece t w h = h.0.did.outcomes ++ h.0.halted.outcomes
outcomes_of fed.Memory s v piece t w (inl began, keeps, room, holds) = began.did.outcomes
outcomes_of fed.Memory s v piece t w (inr broke, keeps, room, holds) =
    broke.0.did.outcomes ++ broke.0.halted.outcomes

-- A session of the seat was fed these bytes, and took the seat from what it knew to what it knows,
-- with so many refusals: it asked what they ask. What is new in the history costs at most eight
-- times the bytes with those ahead of them, and none of the requests was refused for a full
-- history.
pub record Unfilled (old new : ScriptPortal) (seat : ℕ) (at : Standing) (bytes : List ℕ)
    (now : Standing) (refusals : ℕ) : Type 0 where
  pub came : Fed
  pub first : SinkState
  pub last : SinkState
  pub feeds : Feeds fed.More at (sunk (known_at old seat 0) first) bytes came now
      (sunk (known_at new seat refusals) last)
  pub none_full : NoneIsFull (outcomes_of came at (sunk (known_at old seat 0) first) bytes now
      (sunk (known_at new seat refusals) last) feeds)
  pub grown : cost new.story.history ≤ cost old.story.history + 8 * length (at.rest ++ bytes)

-- there was no memory: to hold the bytes or to gather an answer, as the session says, or for a
-- request
abbrev pub WantsMemory : Fed → ℕ → Type 0
WantsMemory fed.More refusals = 1 ≤ refusals
WantsMemory (fed.Over met) refusals = 1 ≤ refusals
WantsMemory fed.WriteFault refusals = Unit {0}
WantsMemory fed.Memory refusals = Unit {0}

-- an item that breaks a rule, or a line that is too long
abbrev pub IsEnd : Stop → Type 0
IsEnd stop.More = ⊥
IsEnd (stop.Bad rule) = Unit {0}
IsEnd stop.TooLong = Unit {0}

-- bytes were heard, and the connection goes on, or is over
abbrev pub HeardAs : Bool → ScriptPortal → ScriptPortal → ℕ → Standing → List ℕ
    → List (List ℕ) → Standing → Type 0
HeardAs false old new seat at bytes pieces now =
    HearsAt old new seat at bytes stop.More pieces now
HeardAs true old new seat at bytes pieces now =
    (what : Stop) × IsEnd what × HearsAt old new seat at bytes what pieces now

-- what a session of a script meets: an item that breaks a rule, or a line that is too long
abbrev pub IsMet : Served → Type 0
IsMet (served.Malformed at rule) = Unit {0}
IsMet (served.LineTooLong at) = Unit {0}
IsMet other = ⊥

-- why bytes were not heard
abbrev pub HearsNot : ScriptPortal → ScriptPortal → ℕ → Standing → List ℕ → Standing
    → LineError → Type 0
HearsNot old new seat at bytes now not_run.WriteFault = ⊥
HearsNot old new seat at bytes now not_run.Memory =
    (refusals : ℕ) × Unfilled old new seat at bytes now refusals × WantsMemory now.fed refusals
