pub mod Shapes
pub mod Turns
pub mod Steps
pub mod Clauses
pub mod Answered
pub mod Placed
