pub mod Cells
pub mod ColumnSpecs
pub mod Columns
pub mod PageInside
pub mod Pages
pub mod PlacesInside
pub mod Plain
pub mod RanksInside
