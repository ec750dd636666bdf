-- What a request asks of the keeper of the records, and what the keeper then has.
use Rattle.std.specs.Prelude.{◌≡◌, ◌⊎◌, List, [], ◌∷◌, Bool, true, false, cond, Option, Some, None, option_map, IfSome}
use Rattle.portal_base.specs.Calls.{FailsAsTold}
use Rattle.portal_model.specs.declared.entry.Fault.{Fault}
use Rattle.portal_model.specs.declared.entry.Given.{Given}
use Rattle.portal_model.specs.declared.records.RecordChange.{RecordChange}
use Rattle.portal_model.specs.declared.records.Records.{Records}
use Rattle.portal_model.specs.declared.request.Request.{Request}
use Rattle.portal_model.specs.declared.state.Connection.{Connection}
use Rattle.portal_model.specs.Kept.{records_of}
use Rattle.portal_model.specs.Outside.{ChangesRecords, verdict_of}
use Rattle.portal_model.specs.RecordChanges.{changed_by}
use Rattle.portal_model.specs.State.{State}
use Rattle.portal_model.specs.declared.reply.Answer.{Answer}
use Rattle.document_calls.specs.Serves.{Serves}
use Rattle.record_keeper.specs.Keepers.{KeeperIs, after_call}

abbrev pub is_keeper : Fault → Bool
is_keeper Fault.None = false
is_keeper Fault.Tree = false
is_keeper Fault.Keeper = true

-- ---- one call

abbrev pub told_changed : List RecordChange → Bool → Option Records → Option Records
told_changed changes true told = told
told_changed changes false told = option_map (changed_by changes) told

-- one `apply` of these changes, which made all of them or failed
pub record Applied (changes : List RecordChange) (old : KeeperIs) (failed : Bool)
    (new : KeeperIs) : Type 0 where
  pub goes : new ≡ after_call old failed (told_changed changes failed old.told)
  pub fails : FailsAsTold old.calls failed

-- the same of a change that there may be: without one there is no call, and no fault
abbrev pub AppliedIf : Option RecordChange → KeeperIs → Bool → KeeperIs → Type 0
AppliedIf None old failed new = (failed ≡ false) × (new ≡ old)
AppliedIf (Some change) old failed new = Applied (change ∷ []) old failed new

-- the fault of a request whose call failed
abbrev pub fault_if : Bool → Fault
fault_if failed = cond failed Fault.Keeper Fault.None

-- Where memory is wanted: the keeper wasn't called, or its one call wanted memory. Its records
-- and its faults are as before.
abbrev pub KeeperStays : KeeperIs → KeeperIs → Type 0
KeeperStays old new = (new ≡ old) ⊎ ((new ≡ after_call old false old.told)
    × FailsAsTold old.calls false)

-- ---- a request

-- where the keeper tells its records, they are those that stand for the state
abbrev pub KeepsRecords : State → KeeperIs → Type 0
KeepsRecords s keeper = IfSome keeper.told (λ records. records ≡ records_of s)

-- One call came. It failed exactly where the fault is the keeper's. Where the keeper tells its
-- records, they now stand for the state after.
pub record KeeperCalled (after : State) (fault : Fault) (old new : KeeperIs) : Type 0 where
  pub goes : new ≡ after_call old (is_keeper fault) (option_map (λ _. records_of after) old.told)
  pub fails : FailsAsTold old.calls (is_keeper fault)

-- The one call comes exactly where the faultless step changes the records; else the keeper is as
-- before.
pub record KeeperWent (s : State) (c : Connection) (request : Request) (given : Given)
    (after : State) (old new : KeeperIs) : Type 0 where
  pub called : ChangesRecords s (verdict_of s c request given) →
      KeeperCalled after given.fault old new
  pub uncalled : (ChangesRecords s (verdict_of s c request given) → ⊥) → new ≡ old

-- the request is served, and the keeper went as it makes it go
pub record ServesKept (s : State) (c : Connection) (request : Request) (given : Given)
    (after : State) (answer : Answer) (old new : KeeperIs) : Type 0 where
  pub serves : Serves s c request given after answer
  pub keeper : KeepsRecords s old → KeeperWent s c request given after old new
