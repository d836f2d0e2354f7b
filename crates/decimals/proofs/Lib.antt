pub mod DecimalLaws
pub mod DecimalTheorems
