pub mod MakingLemmas
pub mod ShownLists
pub mod TextLemmas
pub mod WritingLemmas
