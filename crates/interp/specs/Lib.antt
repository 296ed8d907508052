pub mod Left
pub mod Joined
pub mod Moves
pub mod Future
pub mod Whole
pub mod Seen
pub mod Following
