-- What the portal's lists are, beside its history and its devices.
use Rattle.std.specs.Prelude.{◌≡◌, ◌≤◌, ℕ, List, Option, Some, None, cond}
use Rattle.document_records.specs.Documents.{DocumentList}
use Rattle.file_generations.specs.Generations.{Held}
use Rattle.file_ops.specs.SeatNames.{AreOwn, OwnTables}
use Rattle.node_looks.specs.OpenHandles.{AreOpen}
use Rattle.open_handles.specs.Opened.{HandleTable}
use Rattle.portal_base.specs.declared.limits.Limits.{Limits}
use Rattle.portal_model.specs.declared.entry.Entry.{Entry}
use Rattle.portal_model.specs.declared.opening.OpeningState.{OpeningState}
use Rattle.portal_model.specs.declared.state.Connection.{Connection}
use Rattle.portal_model.specs.declared.state.Triple.{Triple}
use Rattle.portal_model.specs.History.{run, Legal, cost}
use Rattle.portal_model.specs.Opening.{opened_over}
use Rattle.portal_model.specs.State.{State, held_in}
use Rattle.portal_steps.specs.Documents.{HasLists}

-- the files of a state, where they are told
abbrev pub told_files : State → Option Held
told_files s = cond s.told (Some (held_in s)) None

-- the state has these limits, these lists, the open handles, the names and the temporaries of the
-- tables, and the files told
pub record Holds (s : State) (limits : Limits) (documents : DocumentList) (rights : List Triple)
    (applications : List (List ℕ)) (connections : List Connection) (table : HandleTable)
    (tables : OwnTables) (told : Option Held) : Type 0 where
  pub limits_are : s.limits ≡ limits
  pub lists : HasLists s documents rights applications connections
  pub handles : AreOpen s table
  pub own : AreOwn s tables
  pub files : told_files s ≡ told

-- the history is legal and within its limit, and the state after it holds this
pub record Stands (began : Option Held) (o : OpeningState) (history : List Entry)
    (limit : ℕ) (documents : DocumentList) (rights : List Triple)
    (applications : List (List ℕ)) (connections : List Connection) (table : HandleTable)
    (own : OwnTables) (told : Option Held) : Type 0 where
  pub legal : Legal (opened_over began o) history
  pub limit_is : limit ≡ o.limits.history
  pub within : cost history ≤ o.limits.history
  pub holds : Holds (run (opened_over began o) history) o.limits documents rights applications
      connections table own told
