-- The laws of fields, lines, gates and plans of a table that is redrawn, the theorems, and a case.
pub mod FieldLaws
pub mod AlikeLaws
pub mod LineLaws
pub mod CompiledLaws
pub mod VerdictLaws
pub mod TableTheorems
pub mod OrderTheorems
pub mod Examples
