pub mod RowLaws
pub mod MissLaws
pub mod FixLaws
pub mod SideLaws
pub mod SizeLaws
pub mod ReadLaws
pub mod AskLaws
pub mod Equivalence
