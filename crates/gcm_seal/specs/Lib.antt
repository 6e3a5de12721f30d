pub use Rattle.aes_block.specs.Aes
pub use Rattle.gcm_field.specs.Field
pub mod Gcm
pub mod Hashing
pub mod Vectors
