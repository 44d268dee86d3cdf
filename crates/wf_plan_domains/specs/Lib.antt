pub mod DomainErrors
pub mod DomainPlans
pub mod DomainTests
