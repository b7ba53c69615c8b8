pub mod StepLaws
pub mod CauseLaws
