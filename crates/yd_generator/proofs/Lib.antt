pub mod AcceptedLemmas
pub mod CoverLemmas
pub mod EditLemmas
pub mod GenerationLemmas
pub mod LineLemmas
pub mod PassLemmas
pub mod PlainLemmas
pub mod SharedLemmas
