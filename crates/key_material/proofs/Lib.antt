pub mod Parts
pub mod PrefixTexts
pub mod Taken
pub mod GoodNames
pub mod Kept
pub mod FirstBad
pub mod Judged
