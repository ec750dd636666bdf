-- What the keeper in memory is.
use Rattle.std.specs.Prelude.{Some}
use Rattle.portal_base.specs.Calls.{Counted}
use Rattle.portal_model.specs.declared.records.Records.{Records}
use Rattle.record_keeper.specs.Keepers.{KeeperIs}

-- the records that it began with and those that it has, and its calls
pub record KeeperState : Type 0 where
  pub began : Records
  pub records : Records
  pub count : Counted

abbrev pub keeper_of : KeeperState → KeeperIs
keeper_of s = record {
  began = Some s.began;
  told = Some s.records;
  faults = s.count.faults;
  calls = Some s.count.calls;
}
