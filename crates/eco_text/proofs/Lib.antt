pub mod DigitLaws
pub mod NumberLaws
pub mod NumberedNames
pub mod PrefixLemmas
