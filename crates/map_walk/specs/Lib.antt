pub mod Narrow
pub mod Open
pub mod Readings
pub mod Supply
pub mod Targets
pub mod Walk
pub mod Wholes
