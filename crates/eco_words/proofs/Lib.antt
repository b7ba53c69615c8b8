pub mod LoneFaults
pub mod FilledRows
pub mod Levels
pub mod RowLemmas
pub mod NumeralLemmas
pub mod NumberOptions
pub mod Commands
pub mod CommandLineLemmas
