pub mod AloneLemmas
pub mod CollapsedLemmas
pub mod CutLemmas
pub mod FirstLemmas
pub mod FoundLemmas
pub mod PieceLemmas
pub mod PieceOrderLemmas
pub mod SmallLemmas
