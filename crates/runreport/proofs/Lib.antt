-- Laws of the definitions, and theorems about them.
pub mod WordLaws
pub mod LineLaws
pub mod PrintLaws
pub mod RunLaws
pub mod RunTheorems
