pub mod Related
pub mod Falls
pub mod Grows
pub mod Fits
pub mod Trees
pub mod Cells
pub mod Objects
pub mod Lists
pub mod Sizes
pub mod Turns
pub mod Callings
pub mod Numbers
mod Examples
