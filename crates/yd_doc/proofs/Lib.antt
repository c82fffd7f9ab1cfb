pub mod CauseLemmas
pub mod CountedLemmas
pub mod GroupableLemmas
pub mod GroupedEditLemmas
pub mod GrowingEditLemmas
pub mod KeysLemmas
pub mod LastLemmas
pub mod UsedLemmas
