pub mod Runs
pub mod WordLemmas
pub mod LineLemmas
pub mod NameLemmas
pub mod GatherLemmas
pub mod FileLemmas
