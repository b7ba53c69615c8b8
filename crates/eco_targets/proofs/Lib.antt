pub mod GroupLists
pub mod Few
pub mod Counting
pub mod Finishing
