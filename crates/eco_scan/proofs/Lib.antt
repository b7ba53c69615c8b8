pub mod JudgeLaws
pub mod ReadyLaws
