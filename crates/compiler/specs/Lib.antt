-- What compiling answers.
pub mod Answers
pub mod Inner
