pub mod Answers
pub mod Job
pub mod Laws
pub mod Patches
pub mod Texts
