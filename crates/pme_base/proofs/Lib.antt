pub mod Chain
pub mod DraftSteps
pub mod Filtered
pub mod HeldBytes
pub mod ReadSteps
pub mod Traversed
pub mod Trees
