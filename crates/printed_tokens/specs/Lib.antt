pub mod PrintedKinds
pub mod Safe
pub mod Sourced
pub mod Laws
