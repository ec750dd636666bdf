-- A call of the permission store that was served, over the entries of its tables and over what each
-- connection waits for. The terms are those of the documentation of
-- org.freedesktop.impl.portal.PermissionStore.
use Rattle.std.specs.Prelude.{◌≡◌, ℕ, List, map, Bool, true, false, Option, Some, None, option_map, Result, Ok, Err}
use Rattle.change_signals.specs.Unsent.{AtEach, Boxes, IsSame, told}
use Rattle.document_calls.specs.Changes.{refused_with}
use Rattle.document_calls.specs.KeeperCalls.{KeepsRecords, ServesKept, fault_if}
use Rattle.document_calls.specs.Serves.{given_with}
use Rattle.document_calls.specs.declared.served.ServedCall.{ServedCall}
use Rattle.permission_table.specs.Tables.{Gives, former_of, with_content}
use Rattle.portal_base.specs.Outside.{HasRisen}
use Rattle.portal_base.specs.declared.memory.WantOfMemory.{WantOfMemory}
use Rattle.portal_model.specs.declared.entry.Fault.TheVariants as Fault
use Rattle.portal_model.specs.declared.reply.Answer.{Answer}
use Rattle.portal_model.specs.declared.reply.Code.TheVariants as Code
use Rattle.portal_model.specs.declared.request.Request.TheVariants as Request
use Rattle.portal_model.specs.declared.state.Connection.{Connection}
use Rattle.portal_model.specs.declared.store.StoreAnswer.{StoreAnswer}
use Rattle.portal_model.specs.declared.store.StoreAnswer.TheVariants.{Done, Kept, Entry, Names}
use Rattle.portal_model.specs.declared.store.StoreCall.{StoreCall}
use Rattle.portal_model.specs.declared.store.StoreCall.TheVariants as Call
use Rattle.portal_model.specs.declared.store.StoredEntry.{StoredEntry}
use Rattle.portal_model.specs.declared.store.StoreError.{StoreError}
use Rattle.portal_model.specs.declared.store.StoreError.TheVariants.{NotFound, TooLong, Memory}
use Rattle.portal_model.specs.declared.store.TableEntry.{TableEntry}
use Rattle.portal_model.specs.Errno.{eio}
use Rattle.portal_model.specs.State.{State}
use Rattle.portal_model.specs.Store.{Entries, change_of, store_call}
use Rattle.portal_model.specs.StoreRequest.{identifier_of, table_of}
use Rattle.record_keeper.specs.Keepers.{KeeperIs}
use Rattle.store_serving.specs.Refusals.{refusal_of}
use Rattle.store_serving.specs.Waiting.{AreWaiting, silent}

-- ---- kinds of calls

-- the calls that may change entries: no other asks the keeper
abbrev pub may_change_entries : StoreCall → Bool
may_change_entries (Call.Lookup table id) = false
may_change_entries (Call.Set table create id rows datum) = true
may_change_entries (Call.Delete table id) = true
may_change_entries (Call.SetValue table create id datum) = true
may_change_entries (Call.SetPermission table create id app names) = true
may_change_entries (Call.DeletePermission table id app) = true
may_change_entries (Call.GetPermission table id app) = false
may_change_entries (Call.List table) = false

-- the calls that set an entry, or take a row out of one
abbrev pub changes_an_entry : StoreCall → Bool
changes_an_entry (Call.Set table create id rows datum) = true
changes_an_entry (Call.SetValue table create id datum) = true
changes_an_entry (Call.SetPermission table create id app names) = true
changes_an_entry (Call.DeletePermission table id app) = true
changes_an_entry (Call.Lookup table id) = false
changes_an_entry (Call.Delete table id) = false
changes_an_entry (Call.GetPermission table id app) = false
changes_an_entry (Call.List table) = false

-- ---- answers

-- the answer to a call, by that of the tables
abbrev pub answer_of : StoreAnswer → Answer
answer_of (Done change) = Answer.Done
answer_of Kept = Answer.Done
answer_of (Entry rows datum) = Answer.Entry rows datum
answer_of (Names names) = Answer.Names names

abbrev pub answered_call : Answer → ServedCall
answered_call answer = record { given = given_with false Fault.None; answer = answer }

abbrev pub refused_call : StoreError → Result ServedCall WantOfMemory
refused_call NotFound = Ok (refused_with Code.NotFound)
refused_call TooLong = Ok (refused_with Code.LimitsExceeded)
refused_call Memory = Err (record {})

abbrev pub read_call : Result StoreAnswer StoreError → Result ServedCall WantOfMemory
read_call (Ok answer) = Ok (answered_call (answer_of answer))
read_call (Err error) = refused_call error

-- ---- what is served

-- the state has these entries, and its connections wait for what the boxes hold
pub record HasStore (s : State) (entries : Entries) (boxes : Boxes) : Type 0 where
  pub stored : s.entries ≡ entries
  pub waiting : AreWaiting s.connections boxes

-- The outside gave nothing but whether the keeper failed. That it did is answered Failed, and then
-- its count of faults rose.
pub record GivesStore (call : StoreCall) (old new : KeeperIs) (served : ServedCall) : Type 0 where
  pub failed : Bool
  pub given_is : served.given ≡ given_with false (fault_if failed)
  -- a call that changes no entry doesn't ask the keeper
  pub unasked : may_change_entries call ≡ false → failed ≡ false
  pub risen : served.answer ≡ Answer.Refused Code.Failed → HasRisen old.faults new.faults
  pub no_errno : served.answer ≡ Answer.Refused (Code.Errno eio) → ⊥

-- The sequential portal makes a state of it that has these entries, and whose connections wait for
-- what the boxes hold. All else of the state stays, and the keeper went as the call makes it go: if
-- it told the records that stand for the state, it tells those that stand for the state after.
pub record ServesStore (s : State) (c : Connection) (call : StoreCall) (old : KeeperIs)
    (entries : Entries) (boxes : Boxes) (new : KeeperIs) (served : ServedCall) : Type 0 where
  pub after : State
  pub serves : ServesKept s c (Request.Store call) served.given after served.answer old new
  pub kept : KeepsRecords s old → KeepsRecords after new
  pub has : HasStore after entries boxes
  pub stays : after ≡ record s { entries = entries; connections = after.connections }
  pub connected : map silent after.connections ≡ map silent s.connections
  pub outside : GivesStore call old new served

-- the same in every state with these entries and boxes, of a call that isn't refused ahead of the
-- tables
abbrev pub StoreServed :
    StoreCall → Entries → Boxes → KeeperIs → Entries → Boxes → KeeperIs → ServedCall → Type 0
StoreServed call entries boxes old entries_after boxes_after new served =
    (s : State) (c : Connection) → refusal_of c.who call ≡ None → HasStore s entries boxes →
    ServesStore s c call old entries_after boxes_after new served

-- ---- what the tables made of a call

-- The call sets the entry of this table and identifier, or takes a row out of it. The entry had
-- this content, or wasn't there, and the tables made these entries and this answer of the call.
pub record IsMadeOf (call : StoreCall) (before after : Entries) (table id : List ℕ)
    (former : Option TableEntry) (answer : Result StoreAnswer StoreError) : Type 0 where
  pub kind : changes_an_entry call ≡ true
  pub table_is : table_of call ≡ table
  pub id_is : identifier_of call ≡ id
  pub former_is : former ≡ former_of before table id
  pub gives : Gives (store_call call before) before after answer

-- the entry with this content, where there is one
abbrev pub entry_with : List ℕ → List ℕ → Option TableEntry → Option StoredEntry
entry_with table id content = option_map (with_content table id) content

-- the entry as it stands is told to every connection, where it does
abbrev pub ToldIfThere : Option StoredEntry → Boxes → Boxes → Type 0
ToldIfThere None old new = IsSame old new
ToldIfThere (Some e) old new = AtEach (told (change_of false e)) old new
