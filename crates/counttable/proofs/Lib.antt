-- Laws of counting by a table.
pub mod CountLaws
