-- Laws of the names of gate lines.
pub mod SearchLaws
pub mod TabLaws
pub mod LineLaws
