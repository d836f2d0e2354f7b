-- What is known of a table whose lines and names are checked.
pub mod Inner
