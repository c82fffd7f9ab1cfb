pub mod CharLemmas
pub mod CutLemmas
pub mod HalfLemmas
pub mod TextLemmas
