-- Refusals 1 to 16 of a text.
pub mod Answers
pub mod Inner
