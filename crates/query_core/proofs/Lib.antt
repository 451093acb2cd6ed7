pub mod AscendingLaws
pub mod KeyLaws
pub mod MapLaws
pub mod TreeLaws
