pub mod EcoCommand
pub mod CommandLine
pub mod Steps
