pub mod GraphLaws
pub mod SideLaws
pub mod AskingLaws
pub mod RowLaws
pub mod BoundLaws
