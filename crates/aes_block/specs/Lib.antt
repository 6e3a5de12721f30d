pub use Rattle.pme_terms.specs.Polynomials
pub mod Field
pub mod Aes
pub mod Vectors
pub mod FourBlocks
pub mod HalfBytes
pub mod Basis
pub mod KeyInside
