-- Laws that the proofs cite, and the steps of a table.
pub mod WordLaws
pub mod StepTheorems
