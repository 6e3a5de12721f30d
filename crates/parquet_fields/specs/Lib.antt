pub mod Fields
pub mod Structs
pub mod Reads
pub mod Causes
pub mod Calls
