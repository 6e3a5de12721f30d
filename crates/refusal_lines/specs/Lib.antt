pub use Rattle.hex.specs.Hex
pub mod CauseRows
pub mod DetailText
pub mod RefusalText
