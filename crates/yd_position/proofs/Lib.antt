pub mod AnswerLemmas
pub mod FaultLemmas
pub mod PositionLemmas
pub mod WrittenLemmas
