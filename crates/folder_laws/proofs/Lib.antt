pub mod NamedLists
pub mod SeatNamings
pub mod MadeNamings
pub mod NumberedNodes
pub mod AnsweredNodes
pub mod ChangedFiles
pub mod FolderLaws
pub mod LawExamples
