-- Laws of the definitions.
pub mod SearchLaws
pub mod PartingLaws
pub mod ListingLaws
pub mod BadLine
pub mod AnswerLaws
pub mod PrintingLaws
pub mod EventTheorems
pub mod Examples
pub mod CountedLaws
pub mod ColumnLaws
pub mod ListsLaws
