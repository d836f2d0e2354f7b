-- What `gateplan` prints.
pub mod PlanText
pub mod PlanReport
pub mod Inner
