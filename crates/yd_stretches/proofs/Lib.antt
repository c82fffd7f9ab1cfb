pub mod AmongLemmas
pub mod GatheringLemmas
pub mod ListStretchLemmas
pub mod NumberLemmas
pub mod OneListLemmas
pub mod TakenRowLemmas
