pub mod Tight
pub mod Safe
pub mod Derived
pub mod Sourced
pub mod SourcedProgram
