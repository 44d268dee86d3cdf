pub mod FaultOrder
pub mod FirstFound
pub mod MadeDomains
pub mod StartMoments
pub mod StreamIntervals
pub mod WholePlans
