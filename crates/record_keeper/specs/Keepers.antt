-- What a keeper of records answers, and what each call leaves of its records.
use Rattle.std.specs.Prelude.{◌≡◌, ℕ, List, Bool, true, false, Option, option_map, IfSome}
use Rattle.portal_base.specs.Calls.{Calls, next_call, FailsAsTold}
use Rattle.portal_base.specs.Devices.{count_after}
use Rattle.portal_model.specs.RecordChanges.{changed_by}
use Rattle.portal_model.specs.declared.records.RecordChange.{RecordChange}
use Rattle.portal_model.specs.declared.records.Records.{Records}
use Rattle.record_keeper.specs.declared.keeper.KeeperDone.{KeeperDone}
use Rattle.record_keeper.specs.declared.keeper.KeeperDone.TheVariants as done
use Rattle.record_keeper.specs.declared.keeper.KeeperLoad.{KeeperLoad}
use Rattle.record_keeper.specs.declared.keeper.KeeperLoad.TheVariants as load

pub record KeeperIs : Type 0 where
  -- the records that it began with and those that it has, where it tells them
  pub began : Option Records
  pub told : Option Records
  pub faults : ℕ
  -- its calls, where it tells them
  pub calls : Option Calls

-- the keeper after a call that failed or didn't, with these records
abbrev pub after_call : KeeperIs → Bool → Option Records → KeeperIs
after_call keeper failed told =
    record keeper {
      told = told;
      faults = count_after keeper.faults failed;
      calls = option_map next_call keeper.calls;
    }

abbrev pub is_load_fault : KeeperLoad → Bool
is_load_fault (load.Got records) = false
is_load_fault load.Failed = true
is_load_fault load.Memory = false

abbrev pub is_done_fault : KeeperDone → Bool
is_done_fault done.Done = false
is_done_fault done.Failed = true
is_done_fault done.Memory = false

-- the records that are told are those that come
abbrev pub Gives : Option Records → KeeperLoad → Type 0
Gives told (load.Got records) = IfSome told (λ kept. records ≡ kept)
Gives told load.Failed = Unit {0}
Gives told load.Memory = Unit {0}

-- all changes are made where the answer is Done, and none where it isn't
abbrev pub told_after : List RecordChange → Option Records → KeeperDone → Option Records
told_after changes told done.Done = option_map (changed_by changes) told
told_after changes told done.Failed = told
told_after changes told done.Memory = told

-- A load: the records stay.
pub record Loads (old : KeeperIs) (answer : KeeperLoad) (new : KeeperIs) : Type 0 where
  pub goes : new ≡ after_call old (is_load_fault answer) old.told
  pub gives : Gives old.told answer
  pub fails : FailsAsTold old.calls (is_load_fault answer)

-- Changes.
pub record Applies (changes : List RecordChange) (old : KeeperIs) (answer : KeeperDone)
    (new : KeeperIs) : Type 0 where
  pub goes : new ≡ after_call old (is_done_fault answer) (told_after changes old.told answer)
  pub fails : FailsAsTold old.calls (is_done_fault answer)
