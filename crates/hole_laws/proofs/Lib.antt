pub mod Parts
pub mod Walk
pub mod Fits
pub mod Stands
pub mod Shows
mod Examples
