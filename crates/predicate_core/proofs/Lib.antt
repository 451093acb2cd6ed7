pub mod KeepsLaws
pub mod NumberLaws
pub mod OnceLaws
pub mod OnceLists
pub mod PlaceLaws
pub mod PredPlaceLaws
pub mod SameLaws
pub mod SearchLaws
