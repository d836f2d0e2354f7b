-- Definitions that only inner contracts and proofs cite.
pub mod Bounds
pub mod Expressions
pub mod Machine
pub mod Parts
