pub mod Grids
pub mod Cutting
