-- Laws of compiling.
pub mod StepsLaws
pub mod PlanLaws
pub mod VerdictLaws
pub mod SettledLaws
