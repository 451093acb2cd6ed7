pub mod Faults
pub mod Reading
pub mod Task
pub mod Told
