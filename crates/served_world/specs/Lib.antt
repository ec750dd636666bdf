pub mod ServedOwn
pub mod ServedItem
pub mod ServedWorld
pub mod OwnPlaces
pub mod Laws
pub mod Examples
