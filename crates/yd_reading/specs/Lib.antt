pub mod Answer
pub mod Files
pub mod Judged
pub mod RangesView
pub mod ReadView
pub mod Taking
