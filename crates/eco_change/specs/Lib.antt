pub mod Change
pub mod Asked
pub mod CutProblem
pub mod Failing
