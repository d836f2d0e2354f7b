-- The laws of vertices and edges that are redrawn, the theorems of polygons and of plans, and cases.
pub mod VertexLaws
pub mod RedrawingTheorems
pub mod ElementLaws
pub mod EdgeLaws
pub mod OutlineTheorems
pub mod StepLaws
pub mod PlanLaws
pub mod PlanTheorems
pub mod Cases
