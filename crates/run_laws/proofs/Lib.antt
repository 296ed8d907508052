pub mod Well
pub mod Keeping
pub mod Sound
pub mod Runs
pub mod Called
pub mod Faultless
pub mod Finding
pub mod Bodies
pub mod Leads
pub mod Calls
pub mod Formats
pub mod Passing
pub mod Programs
pub mod NoHoles
mod Examples
