-- What is known of the parents of regions.
pub mod Inner
