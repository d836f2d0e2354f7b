-- Tables with the vertices of polygon lines redrawn, and what is claimed of them.
pub mod Lines
pub mod Claim
