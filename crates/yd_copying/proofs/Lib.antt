pub mod HeadLemmas
pub mod MendingLemmas
pub mod ValueLemmas
