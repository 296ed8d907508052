mod Candidates
mod LineOfRank
