pub mod Outcomes
pub mod Guarantees
