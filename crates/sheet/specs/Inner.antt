-- Definitions that only inner contracts and proofs cite.
pub mod Columns
pub mod Counts
pub mod Numbers
