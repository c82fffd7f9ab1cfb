pub mod EachLemmas
pub mod FilterLemmas
pub mod MemberLemmas
pub mod OptionLemmas
pub mod TestLemmas
