pub mod FileRules
pub mod Shape
