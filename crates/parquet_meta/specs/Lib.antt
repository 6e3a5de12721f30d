pub mod Footer
pub mod FooterShape
pub mod PlanRules
pub mod ReadBack
pub mod Ranges
