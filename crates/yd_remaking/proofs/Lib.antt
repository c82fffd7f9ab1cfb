pub mod AroundLemmas
pub mod FoundLemmas
pub mod GroupLemmas
pub mod KindLemmas
pub mod LastLemmas
pub mod RowLemmas
