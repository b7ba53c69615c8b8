pub mod Made
pub mod Complete
pub mod Finished
pub mod ByWay
