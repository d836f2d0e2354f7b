-- The definitions that the contracts of the events cite.
pub mod Parting
pub mod Listing
pub mod Printing
pub mod Inner
