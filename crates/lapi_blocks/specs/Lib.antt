pub mod Plans
pub mod Arrays
pub mod PlanRuns
pub mod PlanCounts
