pub mod ReferenceLaws
pub mod BaseLaws
