-- Definitions that only inner contracts and proofs cite.
pub mod Kept
pub mod Places
pub mod Counts
pub mod Writing
