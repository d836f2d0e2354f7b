-- Gates as they are read through the places of their lines.
pub mod Inner
