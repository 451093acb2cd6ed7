pub mod DistinctLaws
pub mod SumLaws
