pub mod KindLemmas
pub mod LoadingLemmas
pub mod NameLemmas
pub mod ReadingLemmas
pub mod TakingLemmas
pub mod ToldLemmas
pub mod ValidLemmas
pub mod VerdictLemmas
