pub mod Bits
pub mod Masked
pub mod Packing
