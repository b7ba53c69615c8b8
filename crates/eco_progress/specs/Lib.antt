pub mod Steps
pub mod Progress
pub mod Reported
pub mod Extended
pub mod Stepped
pub mod ByWay
pub mod Standing
