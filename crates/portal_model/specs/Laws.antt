-- Laws over histories, which the public functions of src/laws.rt state.
use Rattle.std.specs.Prelude.{◌≡◌, ℕ, ◌+◌, ◌≤◌, List, [], ◌∷◌, ◌++◌, length, take, map, true, Some, None, is_some}
use Rattle.portal_base.specs.declared.who.Who.{Who}
use Rattle.portal_model.specs.declared.entry.Entry.{Entry}
use Rattle.portal_model.specs.declared.entry.Given.{Given}
use Rattle.portal_model.specs.declared.request.NodeRequest.{NodeRequest}
use Rattle.portal_model.specs.declared.state.Connection.{Connection}
use Rattle.portal_model.specs.History.{run, Legal, cost, of_seat}
use Rattle.portal_model.specs.Lawful.{Lawful}
use Rattle.portal_model.specs.Node.{node_answer}
use Rattle.portal_model.specs.Opening.{SoundOpening, ValidOpening, held_items}
use Rattle.portal_model.specs.State.{State, connection_of, is_mount}
use Rattle.portal_model.specs.declared.opening.OpeningState.{OpeningState}
use Rattle.portal_model.specs.Step.{after, node_step, with_signals}
use Rattle.portal_model.specs.Seated.{BeginsWith, bound, bound_by, exchange, exchanges, is_open}
use Rattle.portal_model.specs.Valid.{Valid}

-- a run of two lists joined is a run after a run
abbrev pub RunsJoin : Type 0
RunsJoin = (s : State) (h more : List Entry) → run s (h ++ more) ≡ run (run s h) more

-- a legal history that goes on legally is legal, and each part of a legal history is
pub record LegalJoins : Type 0 where
  pub join : (s : State) (h more : List Entry) → Legal s h → Legal (run s h) more
      → Legal s (h ++ more)
  pub front : (s : State) (h more : List Entry) → Legal s (h ++ more) → Legal s h
  pub rest : (s : State) (h more : List Entry) → Legal s (h ++ more) → Legal (run s h) more

-- the cost of two lists joined is the sum of their costs
abbrev pub CostsJoin : Type 0
CostsJoin = (h more : List Entry) → cost (h ++ more) ≡ cost h + cost more

abbrev pub SeatsJoin : Type 0
SeatsJoin = (seat : ℕ) (h more : List Entry)
    → of_seat seat (h ++ more) ≡ of_seat seat h ++ of_seat seat more

-- what a list begins with: an order of lists, by their lengths where one list begins with both
pub record Beginnings : Type 0 where
  pub itself : (h : List Entry) → BeginsWith h h
  pub through : (h i j : List Entry) → BeginsWith h i → BeginsWith i j → BeginsWith h j
  pub joined : (h more : List Entry) → BeginsWith (h ++ more) h
  pub taken : (h i : List Entry) → BeginsWith h i → take (length i) h ≡ i
  pub lengths : (h i : List Entry) → BeginsWith h i → length i ≤ length h
  pub whole : (h i : List Entry) → BeginsWith h i → length h ≤ length i → h ≡ i
  pub between : (h i j : List Entry) → BeginsWith h i → BeginsWith h j → length j ≤ length i
      → BeginsWith i j

-- the exchanges of a seat in lists that are joined, and their entries
pub record ExchangesJoin : Type 0 where
  pub join : (seat : ℕ) (s : State) (h more : List Entry)
      → exchanges seat s (h ++ more) ≡ exchanges seat s h ++ exchanges seat (run s h) more
  pub own : (seat : ℕ) (s : State) (h : List Entry) (e : Entry) → e.seat ≡ seat
      → exchanges seat s (h ++ e ∷ []) ≡ exchanges seat s h ++ exchange (run s h) e ∷ []
  pub other : (seat : ℕ) (s : State) (h : List Entry) (e : Entry) → (e.seat ≡ seat → ⊥)
      → exchanges seat s (h ++ e ∷ []) ≡ exchanges seat s h
  pub entries : (seat : ℕ) (s : State) (h : List Entry)
      → map (λ x. x.entry) (exchanges seat s h) ≡ of_seat seat h
  pub lengths : (seat : ℕ) (s : State) (h : List Entry) → length (exchanges seat s h) ≤ length h

-- whether a seat has an open connection, whom it is bound to and what it speaks, is told by the
-- entries of that seat alone
pub record SeatsTell : Type 0 where
  pub binding : (seat : ℕ) (s : State) (h : List Entry)
      → bound (run s h) seat ≡ bound_by (bound s seat) (of_seat seat h)
  pub open_one : (seat : ℕ) (s : State) (h : List Entry)
      → is_open (run s h) seat ≡ is_some (bound_by (bound s seat) (of_seat seat h))

-- a valid state stays valid under lawful entries
pub record StaysValid : Type 0 where
  pub step : (s : State) (e : Entry) → Valid s → Lawful s e → Valid (after s e)
  pub run : (s : State) (h : List Entry) → Legal s h → Valid (run s h)

-- an opening state whose records are sound is valid, over a tree that tells its files and over one
-- that tells nothing
pub record OpeningsAreValid : Type 0 where
  pub told : (o : OpeningState) → SoundOpening o → ValidOpening (Some (held_items o.files)) o
  pub quiet : (o : OpeningState) → SoundOpening o → ValidOpening None o

-- Hosts alone wait for changes of the permission store: in a valid state nothing waits to be told
-- on a mount, nor to an application. So a request on a node tells no change, and is answered in the
-- state as it stands.
pub record HostsAloneWait : Type 0 where
  pub mount :
      (s : State) (seat : ℕ) (c : Connection) → Valid s →
      connection_of s.connections seat ≡ Some c → is_mount c.kind ≡ true → c.unsent ≡ []
  pub application :
      (s : State) (seat : ℕ) (c : Connection) (app : List ℕ) → Valid s →
      connection_of s.connections seat ≡ Some c → c.who ≡ Who.App app → c.unsent ≡ []
  pub on_node :
      (s : State) (seat : ℕ) (c : Connection) (r : NodeRequest) (given : Given) → Valid s →
      connection_of s.connections seat ≡ Some c → is_mount c.kind ≡ true →
      node_step s r given (Some c) ≡ with_signals [] (node_answer s c r given)
