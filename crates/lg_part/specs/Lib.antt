pub mod Grids
pub mod Laws
pub use Rattle.lg_shape.specs.Tiling
