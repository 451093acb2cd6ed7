pub mod Answers
pub mod Laws
pub mod Readings
pub mod Reads
pub mod Targets
pub mod Wanted
