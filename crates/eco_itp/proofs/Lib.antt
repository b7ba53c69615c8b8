pub mod Lists
pub mod Resolving
pub mod Joining
pub mod Leaving
pub mod Looking
pub mod Counting
pub mod Chaining
pub mod Covering
