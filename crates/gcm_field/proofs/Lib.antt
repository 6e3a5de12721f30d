pub mod Vectors
pub mod Folds
pub mod Algebra
pub mod Reversal
pub mod TableLemmas
