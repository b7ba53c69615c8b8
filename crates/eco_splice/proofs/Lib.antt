pub mod Ranges
pub mod PatchShape
pub mod WiredLemmas
pub mod OrderedEdges
pub mod GraphNets
pub mod GraphShape
pub mod GraphValues
pub mod GraphFits
pub mod GraphPatches
mod BitLemmas
mod JoinLemmas
mod WalkLemmas
mod LineLemmas
mod FirstPlaces
mod TableLemmas
mod LineNets
mod LineShape
mod PartLemmas
mod LineFits
mod LineValues
mod LinePatches
