pub mod Classes
pub mod Laws
pub mod Sieves
pub mod Vectors
pub mod Walk
