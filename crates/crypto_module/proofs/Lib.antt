pub mod Parts
pub mod Sizes
pub mod Sealed
pub mod InPlace
pub mod CounterMode
pub mod Written
pub mod ReadBack
