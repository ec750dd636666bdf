pub mod Found
pub mod KeptRights
pub mod GoodRecords
pub mod LoadedRecords
pub mod RenewedLists
pub mod Upgrading
