-- What `gatesheet` prints of an input.
pub mod Sheet
pub mod Inner
