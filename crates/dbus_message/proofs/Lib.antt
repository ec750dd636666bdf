pub mod Parts
pub mod Bodies
pub mod Contents
pub mod Arrays
pub mod ReadMessage
pub mod Fronts
pub mod OneMessage
pub mod WriteMessage
pub mod Tables
mod FirstFound
pub mod Ascii
pub mod WrittenHasSpelling
pub mod WrittenAreMessages
pub mod WrittenHeader
pub mod EmptyReturn
pub mod ReadingsAreOne
pub mod KnownFields
