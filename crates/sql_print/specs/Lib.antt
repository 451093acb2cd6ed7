pub mod Sql
pub mod Text
