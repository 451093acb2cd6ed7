pub mod Atoms
pub mod Counts
pub mod Equal
pub mod Laws
pub mod Search
pub mod Truth
