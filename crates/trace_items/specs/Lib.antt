pub mod Touches
pub mod OwnAdds
pub mod FilesChanged
pub mod Awaited
pub mod Sharings
