pub mod FooterShaped
pub mod LaidSpelled
pub mod PlansKeep
pub mod PlansPassed
pub mod PlansRead
pub mod ReadBackProved
pub mod PlanNumbers
pub mod WritersRead
