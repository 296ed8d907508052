pub mod World
pub mod Steps
pub mod Library
pub mod Meaning
pub mod Own
pub mod Ends
pub mod Laws
pub mod Filled
