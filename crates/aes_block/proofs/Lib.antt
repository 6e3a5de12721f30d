pub mod Blocks
pub mod Bytes
pub mod Columns
pub mod Sboxes
pub mod Schedules
pub mod Steps
