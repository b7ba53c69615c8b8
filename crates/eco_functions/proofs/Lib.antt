pub mod Reaching
pub mod Adding
pub mod Pairing
pub mod Extending
pub mod Patching
mod Smaller
pub mod InputBits
mod Sizing
mod Accepting
mod Replacing
mod Joining
mod GraftLemmas
