pub mod ItemFaults
pub mod PlanStages
