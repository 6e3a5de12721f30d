pub mod Plans
pub mod Putting
pub mod Fitting
