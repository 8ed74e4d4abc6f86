pub mod Blocks
pub mod Laws
pub mod Sections
pub mod Tile
pub mod TileLends
pub mod Tiles
