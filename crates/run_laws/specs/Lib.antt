pub mod Typed
pub mod Holes
pub mod Places
pub mod Reads
pub mod Bodies
pub mod Passing
pub mod Laws
