pub mod Locations
pub mod Rewrites
pub mod Changes
pub mod OnePlace
pub mod Laws
pub mod Faults
pub mod Tally
pub mod Shown
