-- What a table is and means: its lines, members and outlines, the order of steps, the plan's words, refusals 1 to 18, compiling, column lines,
-- counting by a table, demand 3, and judging by a table's plan.
pub mod Table
pub mod Head
pub mod Reaching
pub mod Members
pub mod Outlines
pub mod Steps
pub mod Refusals
pub mod Compile
pub mod Columns
pub mod TableCount
pub mod Floats
pub mod Demand
pub mod Judging
pub mod Further
