-- Outlines drawn from another vertex or in the other direction, and plans with polygons redrawn so.
pub mod Redrawing
pub mod Outline
pub mod Plans
