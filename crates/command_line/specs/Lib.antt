pub mod Verbs
pub mod Options
pub mod Values
pub mod Commands
pub mod Lines
