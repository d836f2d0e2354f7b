-- Laws of line 1, and of column lines by it.
pub mod HeadLaws
pub mod ColumnLaws
