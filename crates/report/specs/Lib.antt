-- What is printed of an input.
pub mod Report
pub mod Inner
