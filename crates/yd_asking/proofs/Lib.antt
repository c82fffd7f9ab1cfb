pub mod RequestLemmas
pub mod TableLemmas
pub mod WordLemmas
