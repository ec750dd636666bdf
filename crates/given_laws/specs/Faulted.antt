-- Entries in which a device failed: such a request changes nothing, and its seat is told what it
-- waited for. A Collect of this seat does the same, and costs no more.
use Rattle.std.specs.Prelude.{◌≡◌, ◌≢◌, ◌≤◌, ℕ, List, map, Bool, true, false}
use Rattle.portal_model.specs.declared.entry.Entry.{Entry}
use Rattle.portal_model.specs.declared.entry.Fault.{Fault}
use Rattle.portal_model.specs.declared.reply.Answer.{Answer}
use Rattle.portal_model.specs.declared.reply.Code.{Code}
use Rattle.portal_model.specs.declared.request.Request.{Request}
use Rattle.portal_model.specs.Errno.{eio}
use Rattle.portal_model.specs.History.{Legal, cost, cost_of, run}
use Rattle.portal_model.specs.Lawful.{Lawful, nothing_given}
use Rattle.portal_model.specs.State.{State}
use Rattle.portal_model.specs.Step.{after, reply_at}
use Rattle.portal_model.specs.Valid.{Valid}

-- a Collect of this seat
abbrev pub collecting : ℕ → Entry
collecting seat = record { seat = seat; request = Request.Collect; given = nothing_given }

-- how a request is answered in which a device failed
abbrev pub failure_of : Request → Code
failure_of (Request.Node r) = Code.Errno eio
failure_of request = Code.Failed

-- the requests that ask no device
abbrev pub asks_no_device : Request → Bool
asks_no_device (Request.Enter who kind) = true
asks_no_device Request.Leave = true
asks_no_device Request.Collect = true
asks_no_device request = false

-- Where a device failed in a lawful entry, the state after it is the one after a Collect of its
-- seat, and what rides ahead of the answer is the same. The answer is that a device failed.
pub record FaultsChangeNothing : Type 0 where
  pub state : (s : State) (e : Entry) → Valid s → Lawful s e → e.given.fault ≢ Fault.None →
      after s e ≡ after s (collecting e.seat)
  pub signals : (s : State) (e : Entry) → Valid s → Lawful s e → e.given.fault ≢ Fault.None →
      (reply_at s e).signals ≡ (reply_at s (collecting e.seat)).signals
  pub answer : (s : State) (e : Entry) → Lawful s e → e.given.fault ≢ Fault.None →
      (reply_at s e).answer ≡ Answer.Refused (failure_of e.request)
  -- such a Collect is lawful in every state, and costs no more
  pub lawful : (s : State) (seat : ℕ) → Lawful s (collecting seat)
  pub costs : (s : State) (e : Entry) → Lawful s e → e.given.fault ≢ Fault.None →
      cost_of Request.Collect ≤ cost_of e.request
  -- no device fails where none is asked
  pub unfaulted : (s : State) (e : Entry) → Lawful s e → asks_no_device e.request ≡ true →
      e.given.fault ≡ Fault.None

-- ---- a whole history

-- the entry itself where no device failed in it, else a Collect of its seat
abbrev pub collecting_if : Fault → Entry → Entry
collecting_if Fault.None e = e
collecting_if Fault.Tree e = collecting e.seat
collecting_if Fault.Keeper e = collecting e.seat

abbrev pub without_fault : Entry → Entry
without_fault e = collecting_if e.given.fault e

-- a legal history with a Collect in the place of each entry in which a device failed is legal,
-- comes to the same state, and costs no more
pub record HistoriesGoWithoutFaults : Type 0 where
  pub legal : (s : State) (h : List Entry) → Legal s h → Legal s (map without_fault h)
  pub run : (s : State) (h : List Entry) → Legal s h → run s (map without_fault h) ≡ run s h
  pub cost : (s : State) (h : List Entry) → Legal s h → cost (map without_fault h) ≤ cost h
