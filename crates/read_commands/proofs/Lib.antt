pub mod Openings
pub mod Plaintexts
pub mod Structs
pub mod Tails
pub mod Columns
