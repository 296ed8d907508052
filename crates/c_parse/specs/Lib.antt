pub mod Gives
pub mod Parts
pub mod Results
pub mod FaultWords
