pub mod Io
pub mod Output
pub mod Formats
pub mod Scanning
