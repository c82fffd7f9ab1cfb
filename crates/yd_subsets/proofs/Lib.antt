pub mod BelowLemmas
pub mod CutLemmas
pub mod PartLemmas
