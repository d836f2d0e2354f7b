-- Definitions that only inner contracts and proofs cite.
pub mod Steps
pub mod Ranges
pub mod Walks
pub mod Raising
pub mod Groups
