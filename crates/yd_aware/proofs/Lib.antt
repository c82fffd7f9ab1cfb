pub mod EndingLemmas
pub mod KeptLemmas
pub mod LawLemmas
pub mod OwnTableLemmas
pub mod SeatLemmas
pub mod TakingLemmas
pub mod TreeLemmas
pub mod UndoingLemmas
