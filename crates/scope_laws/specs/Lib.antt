pub mod Seen
pub mod Spots
pub mod Laws
