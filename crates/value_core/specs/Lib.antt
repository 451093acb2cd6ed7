pub mod Integer
pub mod Text
pub mod Value
pub mod Word
