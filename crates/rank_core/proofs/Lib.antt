pub mod BodyLaws
pub mod LimitLaws
pub mod MergeLaws
pub mod NodeLaws
pub mod SizeLaws
pub mod SortLaws
