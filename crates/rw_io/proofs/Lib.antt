pub mod FilesLemmas
pub mod KnownLemmas
pub mod Handing
pub mod ListLemmas
pub mod Reading
