pub mod LaneLemmas
pub mod Opposites
pub mod SiftLemmas
pub mod Single
pub mod TurnedNets
