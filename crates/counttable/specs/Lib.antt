-- What counting by a table answers.
pub mod Answers
pub mod Inner
