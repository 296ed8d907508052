pub mod Faults
pub mod Suite
