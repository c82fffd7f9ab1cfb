pub mod ConvergeLemmas
pub mod DistinctLemmas
pub mod FoundLemmas
pub mod HeldCountLemmas
pub mod ListCountLemmas
pub mod SpanCountLemmas
