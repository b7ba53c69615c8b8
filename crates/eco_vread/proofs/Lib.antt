mod Naming
pub mod ExpressionTrees
pub mod ExpressionLaws
mod Assignments
mod Stacks
mod Steps
mod Repeats
mod Readers
mod Singles
mod Listed
mod Statements
mod Files
mod Declarations
pub mod Sizes
mod Outcomes
pub mod Uniqueness
pub mod Exclusive
mod Headers
mod Works
mod Assigned
mod Values
mod Nets
