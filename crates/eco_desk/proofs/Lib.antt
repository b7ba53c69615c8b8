pub mod SweptLaws
pub mod DeskLaws
