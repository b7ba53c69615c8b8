pub mod ChoiceLemmas
pub mod TurnedLemmas
pub mod SiftingLemmas
pub mod WithoutLemmas
