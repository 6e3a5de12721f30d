pub mod World
pub mod Stops
pub mod SmallFile
pub mod KeysInput
pub mod Printing
pub mod TextCommand
