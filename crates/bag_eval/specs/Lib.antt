pub mod Alike
pub mod Results
pub mod StandardForms
