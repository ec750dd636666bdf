pub mod SortedNumbers
pub mod SortedNames
pub mod SeenFolders
pub mod SeenPlaces
pub mod ReachedRights
pub mod AllowedNow
