-- Worked examples of calls of the permission store, over a table t of two entries: i, which was
-- made first, with a row, and b, without one. What is expected is worked out by hand from the
-- rules.
use Rattle.std.specs.Prelude.{◌≡◌, ℕ, List, [], ◌∷◌, codes, true, false, None}
use Rattle.dbus_types.specs.declared.types.Value.TheVariants as V
use Rattle.portal_base.specs.declared.who.Kind.TheVariants as Kind
use Rattle.portal_base.specs.declared.who.Who.{Who}
use Rattle.portal_model.specs.declared.entry.Entry.{Entry}
use Rattle.portal_model.specs.declared.entry.Fault.{Fault}
use Rattle.portal_model.specs.declared.entry.Given.{Given}
use Rattle.portal_model.specs.declared.records.Row.{Row}
use Rattle.portal_model.specs.declared.reply.Answer.{Answer}
use Rattle.portal_model.specs.declared.reply.Change.{Change}
use Rattle.portal_model.specs.declared.reply.Code.TheVariants as Code
use Rattle.portal_model.specs.declared.reply.Reply.{Reply}
use Rattle.portal_model.specs.declared.request.Request.{Request}
use Rattle.portal_model.specs.declared.state.Connection.{Connection}
use Rattle.portal_model.specs.declared.store.StoreCall.{StoreCall}
use Rattle.portal_model.specs.declared.store.StoreCall.TheVariants as Call
use Rattle.portal_model.specs.declared.store.StoredEntry.{StoredEntry}
use Rattle.portal_model.specs.Examples.{asks_alone, editor, read_write_state}
use Rattle.portal_model.specs.History.{cost_of}
use Rattle.portal_model.specs.State.{State}
use Rattle.portal_model.specs.Step.{after, reply_at}

abbrev pub t : List ℕ
t = codes "t"

abbrev pub i : List ℕ
i = codes "i"

abbrev pub x : List ℕ
x = codes "app.x"

abbrev pub row_of_x : Row
row_of_x = record { app = x; names = codes "yes" ∷ [] }

abbrev pub entry_i : StoredEntry
entry_i = record { table = t; id = i; datum = V.Byte 0; rows = row_of_x ∷ [] }

abbrev pub entry_b : StoredEntry
entry_b = record { table = t; id = codes "b"; datum = V.Bool true; rows = [] }

-- a bus without presented files, which waits for these changes
abbrev pub bus : ℕ → Who → List Change → Connection
bus seat who unsent = record {
  seat = seat;
  who = who;
  kind = Kind.Bus;
  queue = [];
  opens = 0;
  unsent = unsent;
  namings = [];
  temps = [];
  added = 0;
}

-- two buses of the host and one of an application; the host's wait for these changes
abbrev pub tables_with : List StoredEntry → List Change → List Change → State
tables_with entries first second = record read_write_state {
  connections =
      bus 1 Who.Host first ∷ bus 2 Who.Host second ∷ bus 3 (Who.App editor) [] ∷ [];
  entries = entries;
}

abbrev pub tables : State
tables = tables_with (entry_i ∷ entry_b ∷ []) [] []

abbrev pub calls : ℕ → StoreCall → Entry
calls seat call = asks_alone seat (Request.Store call)

abbrev pub told_nothing : Answer → Reply
told_nothing answer = record { signals = []; answer = answer }

-- ---- what is read

-- identifiers stand in byte order, whatever their entries' age; a table without entries has none,
-- and an application without a row has no permissions
pub record Readings : Type 0 where
  pub list : reply_at tables (calls 1 (Call.List t))
      ≡ told_nothing (Answer.Names (codes "b" ∷ i ∷ []))
  pub list_of_none : reply_at tables (calls 1 (Call.List (codes "u")))
      ≡ told_nothing (Answer.Names [])
  pub lookup : reply_at tables (calls 1 (Call.Lookup t i))
      ≡ told_nothing (Answer.Entry (row_of_x ∷ []) (V.Byte 0))
  pub permissions : reply_at tables (calls 1 (Call.GetPermission t i x))
      ≡ told_nothing (Answer.Names (codes "yes" ∷ []))
  pub no_row : reply_at tables (calls 1 (Call.GetPermission t i (codes "app.y")))
      ≡ told_nothing (Answer.Names [])
  pub no_entry : reply_at tables (calls 1 (Call.GetPermission t (codes "none") x))
      ≡ told_nothing (Answer.Refused Code.NotFound)
  pub unchanged : after tables (calls 1 (Call.Lookup t i)) ≡ tables

-- ---- what is told

abbrev pub gone : Change
gone = record { table = t; id = i; deleted = true; datum = V.Byte 0; rows = row_of_x ∷ [] }

abbrev pub as_it_stands : Change
as_it_stands = record { table = t; id = i; deleted = false; datum = V.Byte 0; rows = row_of_x ∷ [] }

abbrev pub without_row : Change
without_row = record { table = t; id = i; deleted = false; datum = V.Byte 0; rows = [] }

-- Each bus of the host waits for a change, the caller's own too, and no application's. The caller
-- is told ahead of its next answer; the other still waits. A deletion tells what goes.
pub record Deletions : Type 0 where
  pub deletes : reply_at tables (calls 1 (Call.Delete t i)) ≡ told_nothing Answer.Done
  pub waits : after tables (calls 1 (Call.Delete t i))
      ≡ tables_with (entry_b ∷ []) (gone ∷ []) (gone ∷ [])
  pub told_then : reply_at (after tables (calls 1 (Call.Delete t i))) (calls 1 (Call.Delete t i))
      ≡ record { signals = gone ∷ []; answer = Answer.Refused Code.NotFound }
  pub other_waits : after (after tables (calls 1 (Call.Delete t i))) (calls 1 (Call.Delete t i))
      ≡ tables_with (entry_b ∷ []) [] (gone ∷ [])
  pub in_order : after (after tables (calls 2 (Call.DeletePermission t i x)))
      (calls 1 (Call.Delete t i))
      ≡ tables_with (entry_b ∷ []) ((record gone { rows = [] }) ∷ [])
      (without_row ∷ (record gone { rows = [] }) ∷ [])

-- a row that isn't there is no fault, and the entry is told as it stands; no entry is one
pub record RowsThatGo : Type 0 where
  pub row : after tables (calls 1 (Call.DeletePermission t i x))
      ≡ tables_with ((record entry_i { rows = [] }) ∷ entry_b ∷ []) (without_row ∷ [])
      (without_row ∷ [])
  pub no_row : reply_at tables (calls 1 (Call.DeletePermission t i (codes "app.y")))
      ≡ told_nothing Answer.Done
  pub stands : after tables (calls 1 (Call.DeletePermission t i (codes "app.y")))
      ≡ tables_with (entry_i ∷ entry_b ∷ []) (as_it_stands ∷ []) (as_it_stands ∷ [])
  pub no_entry : reply_at tables (calls 1 (Call.DeletePermission t (codes "none") x))
      ≡ told_nothing (Answer.Refused Code.NotFound)
  pub nothing_told : after tables (calls 1 (Call.DeletePermission t (codes "none") x)) ≡ tables

-- where the keeper fails, nothing changes and nothing is told
abbrev pub keeper_fails : Given
keeper_fails = record {
  now = None;
  words = [];
  numbers = [];
  looks = [];
  listed = None;
  generation = None;
  full = false;
  fault = Fault.Keeper;
}

abbrev pub deletes_in_vain : Entry
deletes_in_vain =
    record { seat = 1; request = Request.Store (Call.Delete t i); given = keeper_fails }

pub record KeeperFaults : Type 0 where
  pub reply : reply_at tables deletes_in_vain ≡ told_nothing (Answer.Refused Code.Failed)
  pub unchanged : after tables deletes_in_vain ≡ tables

-- ---- the order of refusals

abbrev pub documents : List ℕ
documents = codes "documents"

-- the kind of caller is looked at first, then the texts, then the table, and last the entry
pub record OrderOfRefusals : Type 0 where
  pub application : reply_at tables (calls 3 (Call.List t))
      ≡ told_nothing (Answer.Refused Code.AccessDenied)
  pub application_first : reply_at tables (calls 3 (Call.Lookup documents (0 ∷ [])))
      ≡ told_nothing (Answer.Refused Code.AccessDenied)
  pub text : reply_at tables (calls 1 (Call.Lookup documents (0 ∷ [])))
      ≡ told_nothing (Answer.Refused Code.InvalidArgument)
  pub table : reply_at tables (calls 1 (Call.Lookup documents (codes "none")))
      ≡ told_nothing (Answer.Refused Code.NotAllowed)
  pub entry : reply_at tables (calls 1 (Call.Lookup t (codes "none")))
      ≡ told_nothing (Answer.Refused Code.NotFound)
  pub not_here : reply_at tables (calls 4 (Call.List t))
      ≡ told_nothing (Answer.Refused Code.NotHere)

-- ---- costs

-- 128 bytes, and those of all texts
pub record CostsOfCalls : Type 0 where
  pub list : cost_of (Request.Store (Call.List t)) ≡ 129
  pub row : cost_of (Request.Store (Call.SetPermission t true i x (codes "yes" ∷ codes "no" ∷ [])))
      ≡ 140
