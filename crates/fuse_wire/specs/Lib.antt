pub mod Frames
pub mod Opcodes
pub mod Bodies
pub mod Init
pub mod Asks
