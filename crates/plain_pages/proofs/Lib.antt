pub mod Kept
pub mod PageBack
pub mod PageByNumber
pub mod PageLemmas
pub mod PlaceLists
pub mod RowsKept
pub mod TableLemmas
