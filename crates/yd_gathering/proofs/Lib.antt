pub mod BlocksLemmas
pub mod GathererLemmas
pub mod GrowingLemmas
pub mod LateLemmas
pub mod RowLemmas
pub mod SaidLemmas
pub mod StandingLemmas
