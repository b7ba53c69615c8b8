pub mod Running
pub mod Laws
pub mod WordLemmas
mod Walking
mod Walked
mod Drivers
pub mod Reaching
mod Spreading
