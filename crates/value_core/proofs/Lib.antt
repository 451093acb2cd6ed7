mod Numerals
pub mod ValueLaws
