pub use Rattle.gcm_seal.specs.Gcm
pub use Rattle.pme_base.specs.Refusals
pub use Rattle.pme_base.specs.Steps
pub mod Frames
pub mod Modules
pub mod Opening
pub mod Pieces
