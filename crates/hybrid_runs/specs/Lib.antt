pub mod Hybrid
pub mod BitsInside
pub mod Written
pub mod Seen
