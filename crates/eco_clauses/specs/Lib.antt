pub mod Listing
pub mod Gates
pub mod Numbering
pub mod Numbers
