pub mod Space
pub mod Contents
pub mod Faults
pub mod Shown
pub mod Laws
pub mod Ranks
