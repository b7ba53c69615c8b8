pub mod Places
pub mod Clausal
pub mod Filling
pub mod Closed
pub mod Modelled
pub mod Literals
mod Progress
pub mod Growing
pub mod Adding
pub mod Naming
mod Fronts
mod EncodeLaws
mod JoinLaws
mod MarkLaws
pub mod ReadLaws
mod SideLaws
mod PartLaws
mod TwoLaws
