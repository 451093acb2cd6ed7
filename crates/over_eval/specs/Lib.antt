pub mod Kept
pub mod Laws
pub mod Live
pub mod Over
pub mod Parts
pub mod Placed
pub mod Told
