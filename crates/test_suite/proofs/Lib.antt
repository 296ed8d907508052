mod Documents
pub mod Counts
pub mod Refusals
