pub mod Distinct
pub mod Inputs
pub mod Limits
pub mod Lists
pub mod Steps
