pub mod Lists
pub mod Rows
pub mod Chunks
pub mod Shaped
