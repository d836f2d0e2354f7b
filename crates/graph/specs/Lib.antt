-- Rows of bits.
pub mod Inner
