pub mod FileLemmas
pub mod GivenLemmas
pub mod LineLemmas
