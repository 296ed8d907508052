pub mod Every
pub mod Hiding
pub mod Meant
pub mod Orders
pub mod Passing
pub mod Agreeing
pub mod Used
