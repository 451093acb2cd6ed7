pub mod NarrowLaws
pub mod OpenLaws
pub mod ReadingLaws
pub mod RowCountLaws
pub mod SupplyLaws
pub mod WalkLaws
pub mod WholeLaws
