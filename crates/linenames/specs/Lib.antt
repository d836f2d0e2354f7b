-- The names of gate lines.
pub mod Inner
