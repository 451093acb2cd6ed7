pub mod Files
pub mod Gained
pub mod MemFolder
pub mod MemSink
pub mod Rose
