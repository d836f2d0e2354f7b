-- What testing a column line answers.
pub mod Answers
