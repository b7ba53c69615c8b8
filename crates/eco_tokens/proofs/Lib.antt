mod Ends
mod Runs
mod Closes
mod Classes
mod Shapes
mod Heads
mod Cuts
mod Behind
mod Steps
pub mod Ahead
pub mod Printed
pub mod Laws
pub mod Names
