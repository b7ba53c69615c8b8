pub mod AskedLemmas
pub mod CutProblems
pub mod BitLemmas
