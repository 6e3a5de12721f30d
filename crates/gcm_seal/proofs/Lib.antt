pub mod Horner
pub mod Texts
pub mod Lanes
pub mod Pieces
