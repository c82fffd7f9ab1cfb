mod AddingLemmas
mod DroppingLemmas
mod NotingLemmas
mod OpeningLemmas
mod OutlivingLemmas
mod OwnLemmas
mod QueueLemmas
mod RunLemmas
mod TakingLemmas
pub mod LawLemmas
pub mod LentLemmas
pub mod ListingLemmas
pub mod RowLemmas
pub mod StandingLemmas
pub mod UnitLemmas
pub mod WalkLemmas
