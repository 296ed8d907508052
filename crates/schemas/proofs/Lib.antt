mod ConstantLemmas
mod Spans
mod SameLemmas
mod Makeable
mod CandidateLemmas
