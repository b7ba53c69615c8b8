pub mod Cuts
pub mod NewNames
