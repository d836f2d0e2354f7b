-- Answers as numbers in a row.
pub mod Answers
