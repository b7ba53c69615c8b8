pub mod Fields
pub mod LineLaws
pub mod Once
pub mod States
pub mod Whole
pub mod Texts
pub mod Answered
