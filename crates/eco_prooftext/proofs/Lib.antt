pub mod FileLaws
pub mod TextLaws
mod WordLaws
pub mod WrittenLaws
pub mod CnfWrittenLaws
pub mod WordReadLaws
pub mod ReadLaws
pub mod LineReadLaws
pub mod OnceLaws
