pub mod GivenLemmas
pub mod CommandLemmas
pub mod PlainLemmas
pub mod TextLemmas
pub mod HostLemmas
pub mod SourceLemmas
