pub mod Pairs
pub mod KeyTexts
