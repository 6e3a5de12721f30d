pub mod Causes
pub mod Ends
pub mod FooterParts
pub mod IsTail
pub mod PlannedRead
pub mod TailOf
pub mod Written
pub mod WrittenRead
