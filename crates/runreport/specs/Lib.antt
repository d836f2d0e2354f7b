-- What `gaterun` reads and prints.
pub mod PlanReading
pub mod Running
