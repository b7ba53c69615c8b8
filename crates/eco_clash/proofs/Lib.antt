pub mod TupleLaws
pub mod PatchLaws
pub mod FloorLaws
pub mod AnswerLaws
pub mod TogetherLaws
