pub mod Depths
pub mod Found
pub mod Held
pub mod Reading
pub mod Samples
pub mod Splits
