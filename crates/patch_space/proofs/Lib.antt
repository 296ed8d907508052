mod ChangeLemmas
mod Spans
mod SpaceLemmas
pub mod EachPatch
mod RankLemmas
mod NewTrees
mod WeakerThere
mod EditedFaults
mod EditedSlots
mod EditsApplied
mod CandidatesSee
mod VisibleThere
mod CandidateChecked
mod FoundPart
mod PatchedChecked
