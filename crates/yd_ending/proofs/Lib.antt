pub mod DeliveryLemmas
pub mod WritingLemmas
