pub mod DistinctNames
pub mod HeaderFacts
pub mod SizeFacts
pub mod StepFacts
pub mod Typing
