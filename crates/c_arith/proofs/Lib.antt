pub mod Conversions
pub mod TwosComplement
pub mod Words
pub mod Remainders
