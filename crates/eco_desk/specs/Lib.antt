pub mod Sizes
pub mod Boards
pub mod Pairs
pub mod Desks
pub mod Engines
