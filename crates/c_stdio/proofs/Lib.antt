pub mod Writing
pub mod Directives
pub mod Digits
