pub mod EndLemmas
pub mod LoweringLemmas
pub mod PlacingLemmas
pub mod RestLemmas
pub mod RestoringLemmas
pub mod SequenceLemmas
pub mod StructLemmas
