pub mod EndLemmas
pub mod PlayedLemmas
pub mod PlaysLemmas
pub mod ReceivedLemmas
