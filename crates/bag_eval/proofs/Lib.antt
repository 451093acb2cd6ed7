pub mod AlikeLists
pub mod FirstLaws
pub mod FitLaws
pub mod GroupFitLaws
pub mod StandardFormLaws
pub mod TreeFitLaws
pub mod ValueLaws
pub mod NameLaws
