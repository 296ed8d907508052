pub mod SameKinds
pub mod Scopes
pub mod Expressions
pub mod Statements
pub mod Programs
pub mod Resolved
mod Declared
