pub mod NeedLaws
pub mod RunLaws
pub mod SearchLaws
pub mod WriteLaws
