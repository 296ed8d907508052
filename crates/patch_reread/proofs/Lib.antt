pub mod LocationsAlike
pub mod RewritingAlike
pub mod WordsAlike
pub mod Parts
pub mod Atoms
pub mod Edits
pub mod Together
