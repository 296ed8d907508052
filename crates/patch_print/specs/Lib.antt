pub mod Edited
pub mod Lines
