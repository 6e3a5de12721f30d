pub use Rattle.pme_terms.specs.Polynomials
pub mod Field
pub mod Table
pub mod KeyInside
