-- Records of the first version that aren't made those of this one open no portal.
use Rattle.std.proofs.Common.{◌≡◌, inl, inr, ◌∙◌}
use Rattle.portal_base.specs.declared.limits.Limits.{Limits}
use Rattle.portal_model.specs.declared.records.Records.{Records}
use Rattle.record_keeper.specs.BadRecords.{AreGood, first_version}
use Rattle.record_keeper.specs.Keepers.{KeeperIs, Loads}
use Rattle.record_keeper.specs.declared.keeper.KeeperLoad.TheVariants as load
use Rattle.portal_start.specs.declared.start.StartError.{StartError}
use Rattle.portal_start.specs.declared.start.StartError.TheVariants.{KeeperFault, BadVersion, BadRecord, Memory}
use Rattle.portal_start.specs.Loading.{LoadsBadly, UpgradesBadly}

pub not_upgraded : (limits : Limits) (old loaded new : KeeperIs) (records : Records) (error : StartError) → Loads old (load.Got records) loaded → AreGood limits records
    → records.version ≡ first_version → UpgradesBadly loaded error new → LoadsBadly limits old error new
not_upgraded limits old loaded new records KeeperFault loads good version applies =
    inr record { records = records; loaded = loaded; loads = loads; good = good; version = version; applies = applies }
not_upgraded limits old loaded new records (BadVersion found) loads good version none = absurd none
not_upgraded limits old loaded new records (BadRecord index) loads good version none = absurd none
not_upgraded limits old loaded new records Memory loads good version (inl same) = inl (same ∙ loads.goes, loads.fails)
not_upgraded limits old loaded new records Memory loads good version (inr applies) =
    inr record { records = records; loaded = loaded; loads = loads; good = good; version = version; applies = applies }
