pub mod Bounds
pub mod Choices
pub mod Fits
pub mod Marks
pub mod Offers
pub mod Plans
pub mod Sites
pub mod View
