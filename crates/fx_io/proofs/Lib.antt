pub mod FaultCounts
pub mod FileSearch
pub mod ReadLoop
pub mod WriteLoop
