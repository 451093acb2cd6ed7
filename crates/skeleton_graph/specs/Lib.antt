pub mod Faults
pub mod GraphData
pub mod Nodes
pub mod Seen
pub mod View
pub mod Links
pub mod Listing
pub mod Below
