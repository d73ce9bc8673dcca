pub mod FolderLemmas
pub mod NamesLemmas
pub mod GivenLemmas
