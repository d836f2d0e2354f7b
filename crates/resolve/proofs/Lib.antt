-- Laws of gates as they are read.
pub mod ReadLaws
pub mod NumberLaws
pub mod CrowdLaws
pub mod LivingLaws
pub mod StartLaws
