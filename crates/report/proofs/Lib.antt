-- Laws of the definitions.
pub mod AcceptedLaws
pub mod ParentLaws
pub mod ReportLaws
pub mod TableLaws
pub mod InputLaws
pub mod ReportTheorems
