-- Requests that are asked in a row.
use Rattle.std.specs.Prelude.{◌≡◌, ◌++◌, ℕ, List, map, Bool}
use Rattle.std.specs.List.{list_all, sum_by}
use Rattle.portal_model.specs.declared.entry.Entry.{Entry}
use Rattle.portal_model.specs.declared.reply.Refused.{Refused}
use Rattle.portal_model.specs.declared.reply.Refused.TheVariants.{Memory, Full}
use Rattle.portal_model.specs.History.{cost_of}
use Rattle.portal_steps.specs.Devices.{is_reserved}
use Rattle.portal_steps.specs.Story.{Story}
use Rattle.reserve_laws.specs.declared.rows.SeatRequest.{SeatRequest}

-- all are of kinds for which memory can be taken ahead
abbrev pub are_reserved : List SeatRequest → Bool
are_reserved requests = list_all (λ r. is_reserved r.request) requests

-- what they cost a history together
abbrev pub cost_of_all : List SeatRequest → ℕ
cost_of_all requests = sum_by (λ r. cost_of r.request) requests

-- the request of an entry
abbrev pub asked_by : Entry → SeatRequest
asked_by e = record { seat = e.seat; request = e.request }

-- the history grew by an entry for each of them, in their order
pub record WereAnswered (requests : List SeatRequest) (old new : Story) : Type 0 where
  pub entries : List Entry
  pub grown : new.history ≡ old.history ++ entries
  pub theirs : map asked_by entries ≡ requests

-- a refusal that isn't for want of memory
abbrev pub IsFull : Refused → Type 0
IsFull Memory = ⊥
IsFull (Full cost limit) = Unit {0}
