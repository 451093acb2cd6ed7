pub mod Filled
pub mod Laws
pub mod Parts
pub mod StandardForm
