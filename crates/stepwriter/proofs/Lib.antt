-- Laws that the proofs cite.
pub mod ParentLaws
pub mod StepLaws
