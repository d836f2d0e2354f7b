pub mod Decimals
pub mod Inner
