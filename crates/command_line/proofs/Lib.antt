pub mod WalkLaws
pub mod ReadingLaws
pub mod WordLaws
pub mod CommandLaws
