pub mod Word
pub mod Command
pub mod Reading
