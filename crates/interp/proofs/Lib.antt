pub mod Closed
pub mod Plain
pub mod Stacks
pub mod Enough
pub mod Moving
pub mod Nexts
pub mod SuperSteps
pub mod CallSteps
pub mod Taking
pub mod Pauses
pub mod Starts
pub mod Machines
mod Whole
mod WholeTrees
mod Filling
mod Following
