-- Definitions that only inner contracts and proofs cite.
pub mod Answers
pub mod Columns
