-- What contracts see of a keeper in a database: the faults that it met. It tells neither the
-- records that it has nor its calls.
use Rattle.std.specs.Prelude.{◌≡◌, ◌≢◌, ℕ, Option, Some, None}
use Rattle.sqlite_tables.specs.declared.fault.DatabaseFault.{DatabaseFault}
use Rattle.sqlite_tables.specs.declared.fault.DatabaseFault.TheVariants as database
use Rattle.sqlite_tables.specs.declared.fault.KeeperFault.{KeeperFault}
use Rattle.sqlite_tables.specs.declared.fault.KeeperFault.TheVariants as keeper
use Rattle.record_keeper.specs.Keepers.{KeeperIs}

-- how many there were, and the last one
pub record Met : Type 0 where
  pub faults : ℕ
  pub last : Option KeeperFault

abbrev pub keeper_of : Met → KeeperIs
keeper_of met = record { began = None; told = None; faults = met.faults; calls = None }

-- the last fault is one of the database, and no want of memory
abbrev pub IsOfDatabase : Option KeeperFault → Type 0
IsOfDatabase last =
    (fault : DatabaseFault) × (last ≡ Some (keeper.Database fault)) × (fault ≢ database.Memory)
