pub mod Command
pub mod Reply
pub mod Handshake
pub use Rattle.hex.specs.Hex
