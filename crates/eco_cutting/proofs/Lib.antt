pub mod Picking
pub mod CutNames
pub mod CutLemmas
pub mod MadeLemmas
pub mod CheckedLemmas
pub mod DraftLemmas
pub mod TargetNames
pub mod NewNameLemmas
