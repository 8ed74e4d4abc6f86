pub mod Mapping
pub mod Columns
