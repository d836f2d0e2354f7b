-- Laws of the definitions.
pub mod ColumnLaws
pub mod CountLaws
pub mod ColumnLineLaws
pub mod ListLaws
pub mod OrderLaws
pub mod SheetTheorems
pub mod SheetLaws
pub mod PrintLaws
pub mod InputLaws
pub mod FitsLaws
