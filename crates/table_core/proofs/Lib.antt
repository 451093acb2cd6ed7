pub mod BagLaws
pub mod LimitLaws
