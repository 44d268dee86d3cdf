pub mod TestLaws
pub mod ReadLaws
pub mod PartLaws
pub mod PlanLaws
pub mod StartTimes
