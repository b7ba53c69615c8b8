mod Rows
mod Lists
mod Groups
mod Marks
mod Fitting
mod OutputLaws
mod Deciding
mod Needing
pub mod OneFinding
mod NetValues
mod Forced
mod Alike
mod Loads
mod Carriers
mod Bounds
