pub mod Cases
pub mod Prints
pub mod SmallFiles
pub mod TextAnswers
