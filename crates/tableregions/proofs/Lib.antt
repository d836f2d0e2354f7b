-- Laws of the regions of a table by number.
pub mod PlaceLaws
pub mod ReferenceLaws
