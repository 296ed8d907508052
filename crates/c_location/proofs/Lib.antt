pub mod SpanLemmas
mod TallyLemmas
pub mod Places
mod Elsewhere
mod Rises
mod Sound
mod InOrder
mod Found
mod WalkLemmas
mod PartLemmas
mod ChangeLemmas
