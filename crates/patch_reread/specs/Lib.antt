pub mod Suits
pub mod ReadsAgain
pub mod Texts
