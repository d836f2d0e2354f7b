-- The words that the step writer writes.
pub mod Inner
