pub mod Search
pub mod Size
pub mod Line
pub mod Listing
pub mod Piece
pub mod Promise
pub mod Need
