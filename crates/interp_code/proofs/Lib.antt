pub mod Runs
pub mod Right
pub mod Places
pub mod Kept
pub mod NoHole
pub mod Heads
pub mod Entries
pub mod Lists
pub mod Starts
pub mod Made
pub mod Whole
mod Examples
